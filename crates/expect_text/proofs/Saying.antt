-- A pattern is met by a text of the parts of a line exactly where it is found to be.
use Rattle.std.proofs.Common.{◌≡◌, ℕ, ◌<◌, ◌||◌, inl, inr, Bool, true, false, List, ◌++◌, Some, slice_get}
use Rattle.std.specs.List.{list_any}
use Rattle.line_frames.specs.declared.Ending.{Ending}
use Rattle.message_table.specs.Table.{operands_of}
use Rattle.expect_text.specs.Bits.{bits_met}
use Rattle.expect_text.specs.Fits.{fits}
use Rattle.expect_text.specs.Parts.{IsTextBefore, any_below, is_met}
use Rattle.expect_text.specs.Said.{ending_word, endings_of, header_parts, is_complete_met, is_ending_met, is_opcode_met, is_operand_met, is_poll_met, is_said, literal, opcode_parts, operands_parts, verdict_parts}
use Rattle.expect_text.specs.Senders.{Judged, IsTail, tail_met}
use Rattle.expect_text.specs.declared.part.PatternPart.{PatternPart}
use Rattle.expect_text.proofs.Below.{below_only, below_some}
use Rattle.expect_text.proofs.Meeting.{Decides, any_only, any_some, decides}
use Rattle.expect_text.proofs.Truth.{either, or_left, or_right}
use Rattle.expect_text.proofs.Sending.{tail_decides}
use Rattle.expect_text.proofs.Endings.{bits_decide}
use Rattle.expect_text.proofs.Spelling.{BitsBefore, IsEndingSpelled, IsFrameSpelled, IsPollSpelled, IsSpelled}

-- ---- a pattern

module _ (who : Judged) (pattern : List ℕ) where
  line : (parts : List PatternPart) → Decides (is_met (tail_met who) parts) (IsTextBefore (IsTail who) parts)
  line parts = decides (tail_met who) (IsTail who) (tail_decides who) parts

  complete_of : (is_broadcast : Bool) → is_complete_met who pattern is_broadcast ≡ true → is_said who pattern ≡ true
  unfolding is_said
  complete_of false h =
      or_right (list_any (is_ending_met who pattern) (endings_of who)) (is_complete_met who pattern false || is_complete_met who pattern true)
      (or_left (is_complete_met who pattern false) (is_complete_met who pattern true) h)
  complete_of true h =
      or_right (list_any (is_ending_met who pattern) (endings_of who)) (is_complete_met who pattern false || is_complete_met who pattern true)
      (or_right (is_complete_met who pattern false) (is_complete_met who pattern true) h)

  ending_at : (place : ℕ) (ending : Ending) → slice_get (endings_of who) place ≡ Some ending → is_ending_met who pattern ending ≡ true → is_said who pattern ≡ true
  unfolding is_said
  ending_at place ending e h =
      or_left (list_any (is_ending_met who pattern) (endings_of who)) (is_complete_met who pattern false || is_complete_met who pattern true)
      (any_only (is_ending_met who pattern) (endings_of who) place ending e h)

  poll_of : (is_broadcast last_bit : Bool) → is_poll_met who is_broadcast pattern last_bit ≡ true → is_complete_met who pattern is_broadcast ≡ true
  poll_of is_broadcast false h = or_left (is_poll_met who is_broadcast pattern false) (is_poll_met who is_broadcast pattern true || any_below 256 (is_opcode_met who is_broadcast pattern)) h
  poll_of is_broadcast true h =
      or_right (is_poll_met who is_broadcast pattern false) (is_poll_met who is_broadcast pattern true || any_below 256 (is_opcode_met who is_broadcast pattern))
      (or_left (is_poll_met who is_broadcast pattern true) (any_below 256 (is_opcode_met who is_broadcast pattern)) h)

  operand_of : (is_broadcast last_bit : Bool) (code : ℕ) → is_operand_met who is_broadcast code pattern last_bit ≡ true → is_opcode_met who is_broadcast pattern code ≡ true
  operand_of is_broadcast false code h = or_left (is_operand_met who is_broadcast code pattern false) (is_operand_met who is_broadcast code pattern true) h
  operand_of is_broadcast true code h = or_right (is_operand_met who is_broadcast code pattern false) (is_operand_met who is_broadcast code pattern true) h

  opcode_of : (is_broadcast : Bool) (code : ℕ) → code < 256 → is_opcode_met who is_broadcast pattern code ≡ true → is_complete_met who pattern is_broadcast ≡ true
  opcode_of is_broadcast code l h =
      or_right (is_poll_met who is_broadcast pattern false) (is_poll_met who is_broadcast pattern true || any_below 256 (is_opcode_met who is_broadcast pattern))
      (or_right (is_poll_met who is_broadcast pattern true) (any_below 256 (is_opcode_met who is_broadcast pattern))
      (below_only (is_opcode_met who is_broadcast pattern) 256 code l h))

  poll_only : (text : List ℕ) → IsPollSpelled who text → fits pattern text ≡ true → is_said who pattern ≡ true
  poll_only text (is_broadcast, last_bit, t) f =
      complete_of is_broadcast (poll_of is_broadcast last_bit ((line (header_parts is_broadcast ++ verdict_parts is_broadcast last_bit)).only pattern text t f))

  frame_only : (text : List ℕ) → IsFrameSpelled who text → fits pattern text ≡ true → is_said who pattern ≡ true
  frame_only text (is_broadcast, last_bit, code, place, operands, l, e, t) f =
      let met = (line (opcode_parts is_broadcast code ++ (operands ++ verdict_parts is_broadcast last_bit))).only pattern text t f in
      complete_of is_broadcast (opcode_of is_broadcast code l (operand_of is_broadcast last_bit code
      (any_only (λ (operands : List PatternPart). is_met (tail_met who) (opcode_parts is_broadcast code ++ (operands ++ verdict_parts is_broadcast last_bit)) pattern) (operands_parts (operands_of code)) place operands e met)))

  ending_line : (ending : Ending) → Decides (is_met (bits_met ending (tail_met who)) (literal (ending_word ending))) (IsTextBefore (BitsBefore who ending) (literal (ending_word ending)))
  ending_line ending = decides (bits_met ending (tail_met who)) (BitsBefore who ending) (bits_decide who ending) (literal (ending_word ending))

  ending_only : (text : List ℕ) → IsEndingSpelled who text → fits pattern text ≡ true → is_said who pattern ≡ true
  ending_only text (ending, place, e, t) f = ending_at place ending e ((ending_line ending).only pattern text t f)

  pub said_only : (text : List ℕ) → IsSpelled who text → fits pattern text ≡ true → is_said who pattern ≡ true
  said_only text (inl t) f = poll_only text t f
  said_only text (inr (inl t)) f = frame_only text t f
  said_only text (inr (inr t)) f = ending_only text t f

  -- ---- the text that meets it

  abbrev pub Met : Type 0
  Met = (text : List ℕ) × IsSpelled who text × (fits pattern text ≡ true)

  operand_some : (is_broadcast last_bit : Bool) (code : ℕ) → code < 256 → is_operand_met who is_broadcast code pattern last_bit ≡ true → Met
  operand_some is_broadcast last_bit code l h =
      let a = any_some (λ (operands : List PatternPart). is_met (tail_met who) (opcode_parts is_broadcast code ++ (operands ++ verdict_parts is_broadcast last_bit)) pattern) (operands_parts (operands_of code)) h in
      let r = (line (opcode_parts is_broadcast code ++ (a.1 ++ verdict_parts is_broadcast last_bit))).some pattern a.3 in
      (r.0, inr (inl (is_broadcast, last_bit, code, a.0, a.1, l, a.2, r.1)), r.2)

  opcode_some : (is_broadcast : Bool) (code : ℕ) → code < 256 → is_opcode_met who is_broadcast pattern code ≡ true → Met
  opcode_some is_broadcast code l h =
      either (is_operand_met who is_broadcast code pattern false) (is_operand_met who is_broadcast code pattern true) h (operand_some is_broadcast false code l) (operand_some is_broadcast true code l)

  poll_some : (is_broadcast last_bit : Bool) → is_poll_met who is_broadcast pattern last_bit ≡ true → Met
  poll_some is_broadcast last_bit h = let r = (line (header_parts is_broadcast ++ verdict_parts is_broadcast last_bit)).some pattern h in (r.0, inl (is_broadcast, last_bit, r.1), r.2)

  complete_some : (is_broadcast : Bool) → is_complete_met who pattern is_broadcast ≡ true → Met
  complete_some is_broadcast h =
      either (is_poll_met who is_broadcast pattern false) (is_poll_met who is_broadcast pattern true || any_below 256 (is_opcode_met who is_broadcast pattern)) h (poll_some is_broadcast false)
      (λ e. either (is_poll_met who is_broadcast pattern true) (any_below 256 (is_opcode_met who is_broadcast pattern)) e (poll_some is_broadcast true)
      (λ m. let k = below_some (is_opcode_met who is_broadcast pattern) 256 m in opcode_some is_broadcast k.0 k.1 k.2))

  ending_some : (place : ℕ) (ending : Ending) → slice_get (endings_of who) place ≡ Some ending → is_ending_met who pattern ending ≡ true → Met
  ending_some place ending is h = let r = (ending_line ending).some pattern h in (r.0, inr (inr (ending, place, is, r.1)), r.2)

  pub said_some : is_said who pattern ≡ true → Met
  unfolding is_said
  said_some h =
      either (list_any (is_ending_met who pattern) (endings_of who)) (is_complete_met who pattern false || is_complete_met who pattern true) h
      (λ e. let a = any_some (is_ending_met who pattern) (endings_of who) e in ending_some a.0 a.1 a.2 a.3)
      (λ e. either (is_complete_met who pattern false) (is_complete_met who pattern true) e (complete_some false) (complete_some true))
