-- Stretches without a fault are sparse.
use Rattle.std.proofs.Common.{◌≡◌, ℕ, ◌+◌, ◌<◌, ◌≤◌, Bool, true, false, nat_lt, nat_le, if◌then◌else◌, List, [], ◌∷◌, length, drop, take, get_or, Some, None, Option, All, refl, arith, ap, ◌∙◌, sym, suc, zero}
use Rattle.std.specs.List.{AllByRecursion}
use Rattle.std.proofs.lemmas.List.Elements.{All-from_recursion}
use Rattle.std.proofs.lemmas.Bool.Decides.{nat_tests}
use Rattle.line_wave.specs.declared.Stretch.{Stretch}
use Rattle.line_wave.specs.declared.PulsesError.{PulsesError}
use Rattle.line_wave.specs.declared.PulsesError.TheVariants.{TooMany}
use Rattle.line_wave.specs.Pulses.{IsNarrow, AreFarApart, AreSparse, gap_fault, stretch_fault, first_of, first_fault, pulses_fault, FaultlessAreSparse}
use Rattle.line_wave.specs.Bounds.{most_pulses}

no_first : (a b : Option PulsesError) → first_of a b ≡ None → (a ≡ None) × (b ≡ None)
no_first None b h = (refl, h)
no_first (Some e) b h = cc

narrow : (before : Option ℕ) (s : Stretch) → stretch_fault before s ≡ None → IsNarrow s × (gap_fault before s ≡ None)
narrow before s h = grind (arith, nat_tests)

far : (end : ℕ) (s : Stretch) → gap_fault (Some end) s ≡ None → end + 25000 ≤ s.from
far end s h = grind (arith, nat_tests)

each : (before : Option ℕ) (ss : List Stretch) → first_fault before ss ≡ None → AllByRecursion IsNarrow ss
each before [] h = tt
each before (s ∷ ss) h =
    let p = no_first (stretch_fault before s) (first_fault (Some s.to) ss) h in
    ((narrow before s p.0).0, each (Some s.to) ss p.1)

apart : (before : Option ℕ) (ss : List Stretch) → first_fault before ss ≡ None → AreFarApart ss
apart before [] h = tt
apart before (a ∷ []) h = tt
apart before (a ∷ b ∷ ss) h =
    let p = no_first (stretch_fault before a) (first_fault (Some a.to) (b ∷ ss)) h in
    let q = no_first (stretch_fault (Some a.to) b) (first_fault (Some b.to) ss) p.1 in
    (far a.to b (narrow (Some a.to) b q.0).1, apart (Some a.to) (b ∷ ss) p.1)

pub sparse : (ss : List Stretch) → length ss ≤ most_pulses → first_fault None ss ≡ None → AreSparse ss
sparse ss few h = record { few = few; narrow = All-from_recursion IsNarrow ss (each None ss h); far = apart None ss h }

-- one stretch more
pub fault_step : (ss : List Stretch) (before : Option ℕ) (i : ℕ) (s : Stretch) → i < length ss → s ≡ get_or ss i s
    → first_fault before (drop i ss) ≡ first_of (stretch_fault before s) (first_fault (Some s.to) (drop (suc i) ss))
fault_step [] before i s h e = absurd (omega arith)
fault_step (x ∷ xs) before zero s h e = let f : x ≡ s = sym e in rw f refl
fault_step (x ∷ xs) before (suc i) s h e = fault_step xs before i s (omega arith) e

pub take_all : (ss : List Stretch) (i : ℕ) → length ss ≤ i → take i ss ≡ ss
take_all [] zero h = refl
take_all [] (suc i) h = refl
take_all (s ∷ ss) zero h = absurd (omega arith)
take_all (s ∷ ss) (suc i) h = ap (λ xs. s ∷ xs) (take_all ss i (omega arith))

drop_all : (ss : List Stretch) (i : ℕ) → length ss ≤ i → drop i ss ≡ []
drop_all [] zero h = refl
drop_all [] (suc i) h = refl
drop_all (s ∷ ss) zero h = absurd (omega arith)
drop_all (s ∷ ss) (suc i) h = drop_all ss i (omega arith)

-- what was kept at the end of the search for a fault
pub kept_sparse : (ss kept : List Stretch) (before : Option ℕ) (i : ℕ) → length ss ≤ i → length ss ≤ most_pulses
    → kept ≡ take i ss → first_fault before (drop i ss) ≡ first_fault None ss → AreSparse kept
kept_sparse ss kept before i h few k f =
    let e : kept ≡ ss = k ∙ take_all ss i h in
    rw e (sparse ss few (sym f ∙ ap (first_fault before) (drop_all ss i h)))

-- ---- sparse pulses have no fault

no_fault : (s : Stretch) → IsNarrow s → stretch_fault None s ≡ None
no_fault s n = let a : nat_lt s.from s.to ≡ true = grind (arith, nat_tests, n.0) in let b : nat_le s.to (s.from + 10000) ≡ true = grind (arith, nat_tests, n.1) in rw (a, b) refl

no_gap : (end : ℕ) (s : Stretch) → IsNarrow s → end + 25000 ≤ s.from → stretch_fault (Some end) s ≡ None
no_gap end s n h =
    let a : nat_lt s.from s.to ≡ true = grind (arith, nat_tests, n.0) in
    let b : nat_le s.to (s.from + 10000) ≡ true = grind (arith, nat_tests, n.1) in
    let c : nat_lt s.from end ≡ false = grind (arith, nat_tests) in
    let d : nat_lt s.from (end + 25000) ≡ false = grind (arith, nat_tests) in
    rw (a, b, c, d) refl

head : (s : Stretch) (ss : List Stretch) → All IsNarrow (s ∷ ss) → IsNarrow s
head s ss w = w 0 s (omega arith)

tail : (s : Stretch) (ss : List Stretch) → All IsNarrow (s ∷ ss) → All IsNarrow ss
tail s ss w k d l = w (suc k) d (omega arith)

none_after : (end : ℕ) (s : Stretch) (ss : List Stretch) → end + 25000 ≤ s.from → AreFarApart (s ∷ ss) → All IsNarrow (s ∷ ss) → first_fault (Some end) (s ∷ ss) ≡ None
none_after end s [] h f w = rw (no_gap end s (head s [] w) h) refl
none_after end s (r ∷ rs) h f w = rw (no_gap end s (head s (r ∷ rs) w) h) (none_after s.to r rs f.0 f.1 (tail s (r ∷ rs) w))

none_first : (ss : List Stretch) → AreFarApart ss → All IsNarrow ss → first_fault None ss ≡ None
none_first [] f w = refl
none_first (s ∷ []) f w = rw (no_fault s (head s [] w)) refl
none_first (s ∷ r ∷ rs) f w = rw (no_fault s (head s (r ∷ rs) w)) (none_after s.to r rs f.0 f.1 (tail s (r ∷ rs) w))

not_too_many : (ss : List Stretch) (b : Bool) → nat_lt most_pulses (length ss) ≡ b → (if b then Some TooMany else first_fault None ss) ≡ None → AreSparse ss
not_too_many ss true e h = cc
not_too_many ss false e h = sparse ss (grind (arith, nat_tests)) h

no_faults : (ss : List Stretch) → AreSparse ss → pulses_fault ss ≡ None
no_faults ss s =
    let few : length ss ≤ most_pulses = s.few in
    let a : nat_lt most_pulses (length ss) ≡ false = grind (arith, nat_tests) in
    rw a (none_first ss s.far s.narrow)

pub faultless_are_sparse : FaultlessAreSparse
faultless_are_sparse ss = (λ h. not_too_many ss (nat_lt most_pulses (length ss)) refl h, λ s. no_faults ss s)
