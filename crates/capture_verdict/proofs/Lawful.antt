-- Lawful lines are fine, and silent ones idle.
use Rattle.std.proofs.Common.{◌≡◌, ℕ, ◌-◌, ◌/◌, ◌<◌, ◌==◌, Bool, true, false, nat_lt, nat_le, ◌&&◌, List, [], ◌∷◌, Option, Some, None, refl, sym, subst, arith}
use Rattle.std.specs.List.{list_all}
use Rattle.std.proofs.lemmas.Bool.Decides.{nat_tests}
use Rattle.line_wave.specs.declared.Edge.{Edge}
use Rattle.capture_core.specs.Edges.{Captured}
use Rattle.capture_advice.specs.declared.widening.Widening.{Widening}
use Rattle.capture_signs.specs.declared.pieces.PieceCounts.{PieceCounts}
use Rattle.capture_signs.specs.Pieces.{is_lawful}
use Rattle.capture_signs.proofs.Lawful.{lawful_same}
use Rattle.capture_verdict.specs.declared.verdict.Verdict.{Verdict}
use Rattle.capture_verdict.specs.declared.verdict.Verdict.TheVariants.{Idle}
use Rattle.capture_verdict.specs.Lists.{first_some, or_else, value_or}
use Rattle.capture_verdict.specs.Verdicts.{IsFine, LawfulLinesAreFine, SilentLinesAreIdle, bus_of, clock_of, fine_by, fine_of, glitches_of, hum_of, inverted_of, is_steady, is_stuck, nearly_of, odd_of, pieces, pieces_in, rate_of, short_of, silent_by, silent_of, steady_verdict, stuck_of, unit_of, verdict_by}

steady_fine : (k : PieceCounts) (b : Bool) → nat_lt 0 k.mid_frames ≡ b → IsFine (steady_verdict k)
steady_fine k true e = rw e tt
steady_fine k false e = rw e tt

all_in : (k : PieceCounts) → 0 < k.read → k.in_order ≡ k.frames → is_steady k ≡ true
all_in k some same = both (nat_lt 0 k.read) (nat_le (k.frames - k.in_order) (k.frames / 10)) (some_read k.read some) (none (k.frames - k.in_order) (k.frames / 10) (left k.frames k.in_order same))
  where
    both : (a b : Bool) → a ≡ true → b ≡ true → (a && b) ≡ true
    both a b e f = rw (e, f) refl

    left : (n m : ℕ) → m ≡ n → n - m ≡ 0
    left n m e = omega (arith, e)

    none : (n m : ℕ) → n ≡ 0 → nat_le n m ≡ true
    none n m e = grind (arith, nat_tests, e)

    some_read : (n : ℕ) → 0 < n → nat_lt 0 n ≡ true
    some_read n h = grind (arith, nat_tests, h)

fine_found : (stuck : Bool) (k : PieceCounts) → stuck ≡ false → is_steady k ≡ true → fine_by stuck k ≡ Some (steady_verdict k)
fine_found stuck k e f = rw (e, f) refl

fine_is : (c : Captured) → is_stuck c ≡ false → is_steady (pieces c) ≡ true → fine_of c ≡ Some (steady_verdict (pieces c))
unfolding fine_of
fine_is c e f = fine_found (is_stuck c) (pieces c) e f

-- of no edges no frame is read
pub none_read : (end : ℕ) → (pieces (record { edges = []; end = end })).read ≡ 0
unfolding pieces
none_read end = refl

silent_none : (es : List Edge) (end : ℕ) → 0 < (pieces (record { edges = es; end = end })).read → silent_of (record { edges = es; end = end }) ≡ None
unfolding silent_of
silent_none [] end some = absurd (nothing (pieces (record { edges = []; end = end })).read (none_read end) some)
  where
    nothing : (n : ℕ) → n ≡ 0 → 0 < n → ⊥
    nothing n e h = omega (arith, e, h)
silent_none (e ∷ es) end some = refl

second : {X : Type 0} (d x : X) (o p rest : Option X) → o ≡ None → p ≡ Some x → value_or d (or_else o (or_else p rest)) ≡ x
second d x o p rest e f = rw (e, f) refl

abbrev after_fine : Captured → Widening → List (Option Verdict)
after_fine c w =
    hum_of 20000 c ∷ hum_of 16667 c ∷ hum_of 10000 c ∷ hum_of 8333 c ∷ inverted_of c ∷ glitches_of c ∷ unit_of c ∷ stuck_of c ∷ rate_of c ∷ nearly_of w ∷ clock_of c ∷ bus_of c ∷ short_of c ∷ []

fine_first : (c : Captured) (w : Widening) (v : Verdict) → silent_of c ≡ None → fine_of c ≡ Some v → verdict_by c w ≡ v
fine_first c w v e f = second (odd_of c) v (silent_of c) (fine_of c) (first_some (after_fine c w)) e f

in_order_all : (c : Captured) → list_all is_lawful (pieces_in c) ≡ true → (pieces c).in_order ≡ (pieces c).frames
unfolding pieces
in_order_all c lawful = lawful_same (pieces_in c) lawful

pub lawful_fine : LawfulLinesAreFine
lawful_fine c w lawful some free =
    let k = pieces c in
    let fine = fine_is c free (all_in k some (in_order_all c lawful)) in
    subst (λ (v : Verdict). IsFine v) (sym (fine_first c w (steady_verdict k) (silent_none c.edges c.end some) fine)) (steady_fine k (nat_lt 0 k.mid_frames) refl)

idle_by : (es : List Edge) (end : ℕ) → es ≡ [] → 0 < end → silent_by es end ≡ Some (Idle end)
idle_by es end none later = rw (none, no_zero end later) refl
  where
    no_zero : (n : ℕ) → 0 < n → (n == 0) ≡ false
    no_zero n h = grind (arith, nat_tests, h)

idle_is : (c : Captured) → c.edges ≡ [] → 0 < c.end → silent_of c ≡ Some (Idle c.end)
unfolding silent_of
idle_is c none later = idle_by c.edges c.end none later

first : {X : Type 0} (d x : X) (o rest : Option X) → o ≡ Some x → value_or d (or_else o rest) ≡ x
first d x o rest e = rw e refl

pub silent_idle : SilentLinesAreIdle
silent_idle c w none later = first (odd_of c) (Idle c.end) (silent_of c) (first_some (fine_of c ∷ after_fine c w)) (idle_is c none later)
