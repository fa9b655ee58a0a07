-- Where a sender pulls, by the slot of a microsecond and the place in it.
use Rattle.std.proofs.Common.{◌≡◌, ℕ, zero, suc, ◌+◌, ◌*◌, ◌≤◌, Bool, true, false, ◌&&◌, ◌||◌, nat_lt, if◌then◌else◌, List, [], ◌∷◌, length, slice_index_or, inl, inr, refl, arith, ap, ◌∙◌, sym}
use Rattle.std.proofs.lemmas.Bool.{cases_lt}
use Rattle.std.proofs.lemmas.Bool.Decides.{nat_tests}
use Rattle.line_wave.specs.Line.{line_of, covers}
use Rattle.line_wave.specs.Sender.{slot_stretches}
use Rattle.line_rounds.specs.Lays.{BeforeStart, StartAt, AfterStart, SlotAt, SlotOrNone}
use Rattle.line_rounds.proofs.Lows.{before_slots}

-- in place `within` of slot q
pub slot_at : SlotAt
slot_at [] n q within t e w l = absurd (omega (arith, l))
slot_at (b ∷ bits) n zero within t e w l =
    ap (λ c. covers (record { from = n; to = n + (if b then 600 else 1500) }) t || c) (before_slots bits (n + 2400) t (omega arith)) ∙ here b
  where
    here : (b : Bool) → (covers (record { from = n; to = n + (if b then 600 else 1500) }) t || false) ≡ nat_lt within (if b then 600 else 1500)
    here true = grind (arith, nat_tests)
    here false = grind (arith, nat_tests)
slot_at (b ∷ bits) n (suc q) within t e w l =
    ap (λ c. c || line_of (slot_stretches (n + 2400) bits) t) (past b) ∙ slot_at bits (n + 2400) q within t (omega arith) w (omega (arith, l))
  where
    past : (b : Bool) → covers (record { from = n; to = n + (if b then 600 else 1500) }) t ≡ false
    past true = grind (arith, nat_tests)
    past false = grind (arith, nat_tests)

-- after the last slot
pub slots_over : (bits : List Bool) (n t : ℕ) → n + 2400 * length bits ≤ t → line_of (slot_stretches n bits) t ≡ false
slots_over [] n t l = refl
slots_over (b ∷ bits) n t l = ap (λ c. c || line_of (slot_stretches (n + 2400) bits) t) (past b) ∙ slots_over bits (n + 2400) t (omega (arith, l))
  where
    past : (b : Bool) → covers (record { from = n; to = n + (if b then 600 else 1500) }) t ≡ false
    past true = grind (arith, nat_tests)
    past false = grind (arith, nat_tests)

-- in a slot, or after the last one
pub slot_or_none : SlotOrNone
slot_or_none bits n q within t e w = elim (cases_lt q (length bits)) [
  | inl lt ↦ let k : nat_lt q (length bits) ≡ true = grind (arith, nat_tests) in ap (λ c. c && nat_lt within (if slice_index_or bits q false then 600 else 1500)) k ∙ sym (slot_at bits n q within t e w lt)
  | inr ge ↦ let k : nat_lt q (length bits) ≡ false = grind (arith, nat_tests) in ap (λ c. c && nat_lt within (if slice_index_or bits q false then 600 else 1500)) k ∙ sym (slots_over bits n t (omega (arith, e, ge)))
]

-- in the start bit
pub start_at : StartAt
start_at bits begin t h l =
    ap (λ c. covers (record { from = begin; to = begin + 3700 }) t || c) (before_slots bits (begin + 4500) t l) ∙ grind (arith, nat_tests)

pub before_start : BeforeStart
before_start bits begin t l =
    ap (λ c. covers (record { from = begin; to = begin + 3700 }) t || c) (before_slots bits (begin + 4500) t (omega arith)) ∙ grind (arith, nat_tests)

-- after it
pub after_start : AfterStart
after_start bits begin t l = let e : covers (record { from = begin; to = begin + 3700 }) t ≡ false = grind (arith, nat_tests) in rw e refl
