use Rattle.std.proofs.Common.{map, ◌≡◌, ◌∙◌, subst, sym}
use Rattle.message_table.specs.WordSets.{word_in_code}
use Rattle.expect_text.specs.Parts.{end_met, is_met, is_met_unworded}
use Rattle.expect_text.specs.Senders.{after_met, loser_met, out_met, sender_met}
use Rattle.expect_text.specs.declared.part.After.{After}
use Rattle.expect_text.proofs.Below.{at_least_one, below_rest}
use Rattle.expect_text.proofs.Meeting.{by_set}
use Rattle.expect_text.proofs.Sending.{any_here}
use Rattle.expect_text.proofs.part.+meeting.Goals as goal

pub is_met_by_set-returns : goal.is_met_by_set-returns
is_met_by_set-returns t c = c.is_met_by_word.ensures ∙ by_set c.args.set (is_met (after_met c.args.after) c.args.parts.now) c.args.pattern.now (map word_in_code c.words.result.now) c.words.ensures

pub is_after_met-returns-in-Out : goal.is_after_met-returns-in-Out
is_after_met-returns-in-Out t c = subst (λ (a : After). c.is_loser_met.result ≡ after_met a c.args.pattern.now) (sym c.in-Out.is) c.is_loser_met.ensures

pub is_sender_met-returns : goal.is_sender_met-returns
is_sender_met-returns t c = c.is_met_after.ensures

pub is_stopped_met-returns : goal.is_stopped_met-returns
is_stopped_met-returns t c = c.is_met_after.ensures

pub is_met_up_to-returns : goal.is_met_up_to-returns
is_met_up_to-returns t c =
    below_rest (is_met_unworded c.args.kind (is_met (after_met c.args.after) c.args.parts.now) c.args.pattern.now) c.args.byte c.is_met_up_to.result (sym c.is_met_by_byte.ensures ∙ c.if-is_met_by_byte.false)
    (at_least_one c.args.byte c.if-byte-eq0.false) c.is_met_up_to.ensures

pub is_any_met-returns-else-is_any_met : goal.is_any_met-returns-else-is_any_met
is_any_met-returns-else-is_any_met t c =
    any_here (λ n. n.now) c.args.lead.now sender_met (out_met (map (λ n. n.now) c.args.room.now)) c.args.pattern.now c.args.names.now _ c.is_sender_met.result c.in-len1-up.len_at_least
    (sym c.is_any_met.ensures ∙ c.if-is_any_met.false) c.is_sender_met.ensures

pub is_any_out_met-returns-else-is_any_out_met : goal.is_any_out_met-returns-else-is_any_out_met
is_any_out_met-returns-else-is_any_out_met t c =
    any_here (λ n. n.now) c.args.lead.now loser_met end_met c.args.pattern.now c.args.names.now _ c.is_stopped_met.result c.in-len1-up.len_at_least
    (sym c.is_any_out_met.ensures ∙ c.if-is_any_out_met.false) c.is_stopped_met.ensures
