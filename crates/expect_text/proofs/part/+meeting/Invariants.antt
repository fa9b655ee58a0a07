use Rattle.std.proofs.Common.{◌+◌, length, map}
use Rattle.text_core.specs.Piece.{hex_text}
use Rattle.message_table.specs.WordSets.{word_in_code, words_of}
use Rattle.message_text.specs.FrameText.{opcode_text}
use Rattle.expect_text.specs.Parts.{all_bytes, weight}
use Rattle.expect_text.specs.Senders.{after_weight, judged_as, judged_weight, names_weight}
use Rattle.expect_text.proofs.part.+meeting.Given as goal

abbrev pub decreases-is_met : goal.decreases-is_met
decreases-is_met l = 1 + weight l.parts.now + after_weight l.after + length l.pattern.now

abbrev pub decreases-is_met_after : goal.decreases-is_met_after
decreases-is_met_after l = 2 + length l.text.now + weight l.parts.now + after_weight l.after + length l.pattern.now

abbrev pub decreases-is_met_by_word : goal.decreases-is_met_by_word
decreases-is_met_by_word l = 3 + all_bytes (map word_in_code l.words.now) + weight l.parts.now + after_weight l.after + length l.pattern.now

abbrev pub decreases-is_met_by_opcode : goal.decreases-is_met_by_opcode
decreases-is_met_by_opcode l = 3 + length (opcode_text l.code) + weight l.parts.now + after_weight l.after + length l.pattern.now

abbrev pub decreases-is_met_by_set : goal.decreases-is_met_by_set
decreases-is_met_by_set l = 4 + all_bytes (words_of l.set) + weight l.parts.now + after_weight l.after + length l.pattern.now

abbrev pub decreases-is_met_by_byte : goal.decreases-is_met_by_byte
decreases-is_met_by_byte l = 5 + length (hex_text l.byte) + weight l.parts.now + after_weight l.after + length l.pattern.now

abbrev pub decreases-is_met_up_to : goal.decreases-is_met_up_to
decreases-is_met_up_to l = 10 + l.byte + weight l.parts.now + after_weight l.after + length l.pattern.now

abbrev pub decreases-is_met_unworded : goal.decreases-is_met_unworded
decreases-is_met_unworded l = 290 + weight l.parts.now + after_weight l.after + length l.pattern.now

abbrev pub decreases-is_any_met : goal.decreases-is_any_met
decreases-is_any_met l = 60 + length l.lead.now + names_weight (map (λ n. n.now) l.names.now) + names_weight (map (λ n. n.now) l.room.now) + length l.pattern.now

abbrev pub decreases-is_any_out_met : goal.decreases-is_any_out_met
decreases-is_any_out_met l = 1 + length l.lead.now + names_weight (map (λ n. n.now) l.names.now) + length l.pattern.now

abbrev pub decreases-is_out_met : goal.decreases-is_out_met
decreases-is_out_met l = 20 + names_weight (map (λ n. n.now) l.room.now) + length l.pattern.now

abbrev pub decreases-is_loser_met : goal.decreases-is_loser_met
decreases-is_loser_met l = 18 + length l.name.now + names_weight (map (λ n. n.now) l.others.now) + length l.pattern.now

abbrev pub decreases-is_senders_met : goal.decreases-is_senders_met
decreases-is_senders_met l = 90 + names_weight (map (λ n. n.now) l.room.now) + names_weight (map (λ n. n.now) l.room.now) + length l.pattern.now

abbrev pub decreases-is_tail_met : goal.decreases-is_tail_met
decreases-is_tail_met l = judged_weight (judged_as l.who) + length l.pattern.now

abbrev pub decreases-are_bits_met : goal.decreases-are_bits_met
decreases-are_bits_met l = 1 + judged_weight (judged_as l.who) + length l.pattern.now

abbrev pub decreases-is_after_met : goal.decreases-is_after_met
decreases-is_after_met l = after_weight l.after + length l.pattern.now

abbrev pub decreases-is_met_by_digits : goal.decreases-is_met_by_digits
decreases-is_met_by_digits l = 4 + length (hex_text l.byte) + weight l.parts.now + after_weight l.after + length l.pattern.now

abbrev pub decreases-is_sender_met : goal.decreases-is_sender_met
decreases-is_sender_met l = 80 + length l.lead.now + length l.name.now + names_weight (map (λ n. n.now) l.others.now) + names_weight (map (λ n. n.now) l.room.now) + length l.pattern.now

abbrev pub decreases-is_stopped_met : goal.decreases-is_stopped_met
decreases-is_stopped_met l = 25 + length l.lead.now + length l.name.now + names_weight (map (λ n. n.now) l.others.now) + length l.pattern.now
