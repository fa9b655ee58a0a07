-- No line has a front that meets a pattern: then none meets it.
use Rattle.std.proofs.Common.{◌≡◌, ℕ, zero, suc, ◌||◌, Bool, true, false, List, [], ◌∷◌, ◌++◌, refl, ap, ◌∙◌, true≢false}
use Rattle.std.specs.List.{list_any}
use Rattle.line_frames.specs.declared.Ending.TheVariants.{Short, Silent, BadStart, Long, Open}
use Rattle.message_table.specs.Table.{operands_of}
use Rattle.message_table.specs.declared.operand.Operands.{Operands}
use Rattle.expect_text.specs.Parts.{IsEnd, any_below, end_met, is_met}
use Rattle.expect_text.specs.Senders.{Judged, IsTail, tail_met}
use Rattle.expect_text.specs.Senders.Judged.{Run, Capture}
use Rattle.expect_text.specs.Said.{header_parts, is_complete_met, is_ending_met, is_open_met, is_opcode_met, is_operand_met, is_poll_met, is_said, opcode_parts, operands_parts, verdict_parts}
use Rattle.expect_text.specs.declared.part.PatternPart.{PatternPart}
use Rattle.expect_text.specs.declared.part.PatternPart.TheVariants.{Byte, Many, Opcode}
use Rattle.expect_text.specs.declared.part.Class.TheVariants.{Any}
use Rattle.expect_text.proofs.Meeting.{end_decides, needs_front}
use Rattle.expect_text.proofs.Sending.{tail_decides}

neither : (a b : Bool) → a ≡ false → b ≡ false → (a || b) ≡ false
neither a b h k = ap (λ c. c || b) h ∙ k

none_among : {X : Type 0} (f : X → Bool) → ((x : X) → f x ≡ false) → (xs : List X) → list_any f xs ≡ false
none_among f none [] = refl
none_among f none (x ∷ xs) = neither (f x) (list_any f xs) (none x) (none_among f none xs)

none_below : (f : ℕ → Bool) → ((n : ℕ) → f n ≡ false) → (n : ℕ) → any_below n f ≡ false
unfolding any_below
none_below f none zero = refl
none_below f none (suc n) = neither (f n) (any_below n f) (none n) (none_below f none n)

-- a pattern, by the endings and the destinations
pub said_is : (who : Judged) (pattern : List ℕ) → is_said who pattern
    ≡ ((((((is_ending_met who pattern Short || is_ending_met who pattern Silent) || is_ending_met who pattern BadStart) || is_ending_met who pattern Long) || is_open_met who pattern) || is_complete_met who pattern false) || is_complete_met who pattern true)
unfolding is_said
said_is (Run names) pattern =
    by (is_ending_met (Run names) pattern Short) (is_ending_met (Run names) pattern Silent) (is_ending_met (Run names) pattern BadStart) (is_ending_met (Run names) pattern Long) (is_complete_met (Run names) pattern false) (is_complete_met (Run names) pattern true)
  where
    by : (a b c d f g : Bool) → ((a || (b || (c || (d || false)))) || (f || g)) ≡ ((((((a || b) || c) || d) || false) || f) || g)
    by true b c d f g = refl
    by false true c d f g = refl
    by false false true d f g = refl
    by false false false true f g = refl
    by false false false false f g = refl
said_is Capture pattern =
    by (is_ending_met Capture pattern Short) (is_ending_met Capture pattern Silent) (is_ending_met Capture pattern BadStart) (is_ending_met Capture pattern Long) (is_ending_met Capture pattern Open) (is_complete_met Capture pattern false) (is_complete_met Capture pattern true)
  where
    by : (a b c d e f g : Bool) → ((a || (b || (c || (d || (e || false))))) || (f || g)) ≡ ((((((a || b) || c) || d) || e) || f) || g)
    by true b c d e f g = refl
    by false true c d e f g = refl
    by false false true d e f g = refl
    by false false false true e f g = refl
    by false false false false true f g = refl
    by false false false false false f g = refl

-- a capture alone has a reading that is not over
pub open_is : (who : Judged) (pattern : List ℕ) (r : Bool) → who ≡ Capture → r ≡ is_ending_met who pattern Open → r ≡ is_open_met who pattern
open_is (Run names) pattern r e h = cc
open_is Capture pattern r e h = h

module _ (who : Judged) (is_broadcast : Bool) (pattern : List ℕ) where
  under : (front rest : List PatternPart) → is_met end_met (front ++ Many Any ∷ []) pattern ≡ false → is_met (tail_met who) (front ++ rest) pattern ≡ false
  under front rest none = needs_front (tail_met who) (IsTail who) (tail_decides who) front rest pattern none

  no_operand : (code : ℕ) (last_bit : Bool) → is_met end_met (opcode_parts is_broadcast code ++ Many Any ∷ []) pattern ≡ false → is_operand_met who is_broadcast code pattern last_bit ≡ false
  no_operand code last_bit none =
      none_among (λ (operands : List PatternPart). is_met (tail_met who) (opcode_parts is_broadcast code ++ (operands ++ verdict_parts is_broadcast last_bit)) pattern)
      (λ operands. under (opcode_parts is_broadcast code) (operands ++ verdict_parts is_broadcast last_bit) none) (operands_parts (operands_of code))

  no_opcode_at : (code : ℕ) → is_met end_met (opcode_parts is_broadcast code ++ Many Any ∷ []) pattern ≡ false → is_opcode_met who is_broadcast pattern code ≡ false
  no_opcode_at code none = neither (is_operand_met who is_broadcast code pattern false) (is_operand_met who is_broadcast code pattern true) (no_operand code false none) (no_operand code true none)

  under_header : (code : ℕ) → is_met end_met (header_parts is_broadcast ++ Many Any ∷ []) pattern ≡ false → is_opcode_met who is_broadcast pattern code ≡ false
  unfolding opcode_parts header_parts
  under_header code none = no_opcode_at code (needs_front end_met IsEnd end_decides (header_parts is_broadcast) (Byte 32 ∷ Opcode code ∷ Many Any ∷ []) pattern none)

  no_poll : (last_bit : Bool) → is_met end_met (header_parts is_broadcast ++ Many Any ∷ []) pattern ≡ false → is_poll_met who is_broadcast pattern last_bit ≡ false
  no_poll last_bit none = under (header_parts is_broadcast) (verdict_parts is_broadcast last_bit) none

pub no_opcode : (who : Judged) (is_broadcast : Bool) (pattern : List ℕ) (code : ℕ) → is_met end_met (opcode_parts is_broadcast code ++ Many Any ∷ []) pattern ≡ false → is_opcode_met who is_broadcast pattern code ≡ false
no_opcode who is_broadcast pattern code none = no_opcode_at who is_broadcast pattern code none

pub no_header : (who : Judged) (is_broadcast : Bool) (pattern : List ℕ) → is_met end_met (header_parts is_broadcast ++ Many Any ∷ []) pattern ≡ false → is_complete_met who pattern is_broadcast ≡ false
no_header who is_broadcast pattern none =
    neither (is_poll_met who is_broadcast pattern false) (is_poll_met who is_broadcast pattern true || any_below 256 (is_opcode_met who is_broadcast pattern)) (no_poll who is_broadcast pattern false none)
    (neither (is_poll_met who is_broadcast pattern true) (any_below 256 (is_opcode_met who is_broadcast pattern)) (no_poll who is_broadcast pattern true none)
    (none_below (is_opcode_met who is_broadcast pattern) (λ code. under_header who is_broadcast pattern code none) 256))

-- ---- operands one by one

left_no : (a b : Bool) → (a || b) ≡ false → a ≡ false
left_no true b h = absurd (true≢false h)
left_no false b h = refl

right_no : (a b : Bool) → (a || b) ≡ false → b ≡ false
right_no true b h = absurd (true≢false h)
right_no false b h = h

-- where none of the first is so
pub any_joined : {X : Type 0} (f : X → Bool) (xs ys : List X) → list_any f xs ≡ false → list_any f (xs ++ ys) ≡ list_any f ys
any_joined f [] ys h = refl
any_joined f (x ∷ xs) ys h = ap (λ b. b || list_any f (xs ++ ys)) (left_no (f x) (list_any f xs) h) ∙ any_joined f xs ys (right_no (f x) (list_any f xs) h)

-- the same front, row and end
pub operand_lines : (who : Judged) (pattern : List ℕ) (front other back end : List PatternPart) (form row : Operands) → front ≡ other → back ≡ end → form ≡ row
    → list_any (λ operands. is_met (tail_met who) (front ++ (operands ++ back)) pattern) (operands_parts form)
    ≡ list_any (λ operands. is_met (tail_met who) (other ++ (operands ++ end)) pattern) (operands_parts row)
operand_lines who pattern front other back end form row e h k =
    ap (λ (f : List PatternPart). list_any (λ operands. is_met (tail_met who) (f ++ (operands ++ back)) pattern) (operands_parts form)) e
    ∙ ap (λ (b : List PatternPart). list_any (λ operands. is_met (tail_met who) (other ++ (operands ++ b)) pattern) (operands_parts form)) h
    ∙ ap (λ (r : Operands). list_any (λ operands. is_met (tail_met who) (other ++ (operands ++ end)) pattern) (operands_parts r)) k
