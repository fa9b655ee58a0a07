-- The low stretches of a line on which a frame is sent with the nominal times.
use Rattle.std.proofs.Common.{◌≡◌, ℕ, ◌+◌, ◌-◌, ◌<◌, ◌≤◌, Bool, true, false, nat_lt, nat_le, ◌&&◌, List, [], ◌∷◌, ◌++◌, length, Option, Some, None, refl, sym, ◌∙◌, ap, subst, arith}
use Rattle.line_wave.specs.declared.Edge.{Edge}
use Rattle.line_wave.specs.declared.Stretch.{Stretch}
use Rattle.line_wave.specs.Sender.{low_of, sender_stretches, slot_stretches}
use Rattle.capture_core.specs.Edges.{edges_of}
use Rattle.audit_widths.specs.declared.low.Low.{Low}
use Rattle.audit_widths.specs.Lows.{low_at}
use Rattle.audit_pieces.specs.declared.stretch.Class.{Class}
use Rattle.audit_pieces.specs.declared.stretch.Class.TheVariants.{Bit, Start}
use Rattle.audit_pieces.specs.declared.stretch.LowStretch.{LowStretch}
use Rattle.audit_pieces.specs.Bounds.{apart_from, long_from, longest_start, shortest_start}
use Rattle.audit_pieces.specs.Frames.{IsApartFrom}
use Rattle.audit_pieces.specs.Stretches.{class_by, classed, first_of, rise_by}
use Rattle.piece_audit.specs.Wide.{lows_from}
use Rattle.verdict_laws.specs.Frames.{BeginFrom, heard}
use Rattle.verdict_laws.proofs.Slots.{width_is}
use Rattle.verdict_laws.proofs.Placing.{bit_for, bits_for}
use Rattle.verdict_laws.proofs.Widths.{start_for}

-- ---- one

abbrev stretch : ℕ → ℕ → Class → LowStretch
stretch fall rise class = record { fall = fall; rise = rise; class = class }

abbrev starts_by : ℕ → ℕ → Option Low → Bool
starts_by end fall None = false
starts_by end fall (Some next) =
    nat_le shortest_start (next.fall - fall) && (nat_le (next.fall - fall) longest_start && nat_lt (rise_by end next.rise - next.fall) long_from)

classed_is : (end fall : ℕ) (r : Edge) (es : List Edge) (next : Option Low) → classed end (low_at fall (r ∷ es)) next ≡ stretch fall r.at (class_by (nat_le long_from (r.at - fall)) (starts_by end fall next))
classed_is end fall r [] None = refl
classed_is end fall r [] (Some next) = refl
classed_is end fall r (e ∷ es) None = refl
classed_is end fall r (e ∷ es) (Some next) = refl

abbrev next_in : List Stretch → Option Low
next_in ss = first_of (lows_from (edges_of ss))

heard_one : (end : ℕ) (s : Stretch) (ss : List Stretch) → heard end (s ∷ ss) ≡ stretch s.from s.to (class_by (nat_le long_from (s.to - s.from)) (starts_by end s.from (next_in ss))) ∷ heard end ss
heard_one end s ss = ap (λ (x : LowStretch). x ∷ heard end ss) (classed_is end s.from (record { at = s.to; low = false }) (edges_of ss) (next_in ss))

-- ---- bits

bit_class : (fall : ℕ) (bit starts : Bool) → class_by (nat_le long_from (fall + low_of bit - fall)) starts ≡ Bit
bit_class fall true starts = ap (λ (n : ℕ). class_by (nat_le long_from n) starts) (width_is fall 600)
bit_class fall false starts = ap (λ (n : ℕ). class_by (nat_le long_from n) starts) (width_is fall 1500)

heard_bits : (end fall : ℕ) (bits : List Bool) (rest : List Stretch) → heard end (slot_stretches fall bits ++ rest) ≡ bits_for fall bits ++ heard end rest
heard_bits end fall [] rest = refl
heard_bits end fall (bit ∷ bits) rest =
    heard_one end (record { from = fall; to = fall + low_of bit }) (slot_stretches (fall + 2400) bits ++ rest)
    ∙ ap (λ (class : Class). stretch fall (fall + low_of bit) class ∷ heard end (slot_stretches (fall + 2400) bits ++ rest)) (bit_class fall bit (starts_by end fall (next_in (slot_stretches (fall + 2400) bits ++ rest))))
    ∙ ap (λ (xs : List LowStretch). bit_for fall bit ∷ xs) (heard_bits end (fall + 2400) bits rest)

-- ---- the start bit

three : (n m : ℕ) → n ≡ 4500 → nat_lt m long_from ≡ true → (nat_le shortest_start n && (nat_le n longest_start && nat_lt m long_from)) ≡ true
three n m e f = rw (e, f) refl

short_low : (fall : ℕ) (bit : Bool) → nat_lt (fall + low_of bit - fall) long_from ≡ true
short_low fall true = ap (λ (n : ℕ). nat_lt n long_from) (width_is fall 600)
short_low fall false = ap (λ (n : ℕ). nat_lt n long_from) (width_is fall 1500)

next_starts : (end begin : ℕ) (bit : Bool) (es : List Edge) → starts_by end begin (Some (low_at (begin + 4500) (record { at = begin + 4500 + low_of bit; low = false } ∷ es))) ≡ true
next_starts end begin bit [] = three (begin + 4500 - begin) (begin + 4500 + low_of bit - (begin + 4500)) (width_is begin 4500) (short_low (begin + 4500) bit)
next_starts end begin bit (e ∷ es) = three (begin + 4500 - begin) (begin + 4500 + low_of bit - (begin + 4500)) (width_is begin 4500) (short_low (begin + 4500) bit)

start_class : (begin : ℕ) (starts : Bool) → starts ≡ true → class_by (nat_le long_from (begin + 3700 - begin)) starts ≡ Start
start_class begin starts e = ap (λ (n : ℕ). class_by (nat_le long_from n) starts) (width_is begin 3700) ∙ ap (λ (b : Bool). class_by true b) e

pub heard_sender : (end begin : ℕ) (bits : List Bool) (rest : List Stretch) → 0 < length bits → heard end (sender_stretches begin bits ++ rest) ≡ start_for begin ∷ (bits_for (begin + 4500) bits ++ heard end rest)
heard_sender end begin [] rest some = absurd (omega (arith, some))
heard_sender end begin (bit ∷ bits) rest some =
    heard_one end (record { from = begin; to = begin + 3700 }) (slot_stretches (begin + 4500) (bit ∷ bits) ++ rest)
    ∙ ap (λ (class : Class). stretch begin (begin + 3700) class ∷ heard end (slot_stretches (begin + 4500) (bit ∷ bits) ++ rest))
    (start_class begin (starts_by end begin (next_in (slot_stretches (begin + 4500) (bit ∷ bits) ++ rest))) (next_starts end begin bit (edges_of (slot_stretches (begin + 4500 + 2400) bits ++ rest))))
    ∙ ap (λ (xs : List LowStretch). start_for begin ∷ xs) (heard_bits end (begin + 4500) (bit ∷ bits) rest)

-- ---- what follows

pub far_rest : (end last : ℕ) (rest : List Stretch) → BeginFrom (last + apart_from) rest → IsApartFrom last (heard end rest)
far_rest end last [] h = tt
far_rest end last (s ∷ ss) h = subst (λ (xs : List LowStretch). IsApartFrom last xs) (sym (heard_one end s ss)) (let l : last + apart_from ≤ s.from = h in omega (arith, l))
