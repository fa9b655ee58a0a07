-- The pulses that begin in a round, as a part of a list in order.
use Rattle.std.proofs.Common.{◌≡◌, ℕ, zero, suc, ◌+◌, ◌-◌, ◌<◌, ◌≤◌, Bool, true, false, ◌&&◌, nat_le, if◌then◌else◌, List, [], ◌∷◌, length, take, get_or, filter, refl, arith, ap, ◌∙◌, sym}
use Rattle.std.proofs.lemmas.Bool.Decides.{nat_tests}
use Rattle.line_wave.specs.declared.Stretch.{Stretch}
use Rattle.line_wave.specs.Line.{IsWave, IsWaveFrom}
use Rattle.line_rounds.specs.Bounds.{begun_within}

abbrev since : ℕ → Stretch → Bool
since t p = nat_le t p.from

abbrev by : ℕ → Stretch → Bool
by t p = nat_le p.from t

pub wave_sooner : (from to : ℕ) (ss : List Stretch) → to ≤ from → IsWaveFrom from ss → IsWaveFrom to ss
wave_sooner from to [] l w = tt
wave_sooner from to (s ∷ ss) l w = (omega (arith, l, w.0), w.1, w.2)

-- where the first begins then, all do
all_since : (t from : ℕ) (ss : List Stretch) → t ≤ from → IsWaveFrom from ss → filter (since t) ss ≡ ss
all_since t from [] l w = refl
all_since t from (s ∷ ss) l w =
    let here : nat_le t s.from ≡ true = grind (arith, nat_tests, w.0) in
    rw here (ap (λ xs. s ∷ xs) (all_since t (s.to + 1) ss (omega (arith, l, w.0, w.1)) w.2))

none_by : (t from : ℕ) (ss : List Stretch) → t < from → IsWaveFrom from ss → filter (by t) ss ≡ []
none_by t from [] l w = refl
none_by t from (s ∷ ss) l w =
    let here : nat_le s.from t ≡ false = grind (arith, nat_tests, w.0) in
    rw here (none_by t (s.to + 1) ss (omega (arith, l, w.0, w.1)) w.2)

pub first_since : (t : ℕ) (ss : List Stretch) → IsWave ss → t ≤ (get_or ss 0 (record { from = 0; to = 0 })).from → filter (since t) ss ≡ ss
first_since t [] w l = refl
first_since t (s ∷ ss) w l = all_since t s.from (s ∷ ss) l (omega arith, w.1, w.2)

fewer : (t : ℕ) (ss : List Stretch) → length (filter (since t) ss) ≤ length ss
fewer t [] = omega arith
fewer t (s ∷ ss) = by_test (nat_le t s.from) (fewer t ss)
  where
    by_test : (b : Bool) → length (filter (since t) ss) ≤ length ss → length (if b then s ∷ filter (since t) ss else filter (since t) ss) ≤ length (s ∷ ss)
    by_test true l = omega (arith, l)
    by_test false l = omega (arith, l)

-- those that begin by then come before the others
take_by : (t from : ℕ) (ss : List Stretch) → IsWaveFrom from ss → take (length ss - length (filter (since (t + 1)) ss)) ss ≡ filter (by t) ss
take_by t from [] w = refl
take_by t from (s ∷ ss) w = by_test (nat_le s.from t) refl (take_by t (s.to + 1) ss w.2)
  where
    by_test : (b : Bool) → nat_le s.from t ≡ b → take (length ss - length (filter (since (t + 1)) ss)) ss ≡ filter (by t) ss
        → take (length (s ∷ ss) - length (filter (since (t + 1)) (s ∷ ss))) (s ∷ ss) ≡ (if b then s ∷ filter (by t) ss else filter (by t) ss)
    by_test true e rest =
        let later : nat_le (t + 1) s.from ≡ false = grind (arith, nat_tests) in
        let left : suc (length ss) - length (filter (since (t + 1)) ss) ≡ suc (length ss - length (filter (since (t + 1)) ss)) = omega (arith, fewer (t + 1) ss) in
        rw (later, left) (ap (λ xs. s ∷ xs) rest)
    by_test false e rest =
        let past : t < s.from = grind (arith, nat_tests) in
        let all = all_since (t + 1) s.from (s ∷ ss) (omega arith) (omega arith, w.1, w.2) in
        let none : length (s ∷ ss) - length (filter (since (t + 1)) (s ∷ ss)) ≡ 0 = omega (arith, ap length all) in
        rw none (sym (none_by t (s.to + 1) ss (omega (arith, w.1)) w.2))

twice : (begin end : ℕ) (ss : List Stretch) → filter (by end) (filter (since begin) ss) ≡ begun_within begin end ss
twice begin end [] = refl
twice begin end (s ∷ ss) = by_test (nat_le begin s.from) (nat_le s.from end) refl (twice begin end ss)
  where
    by_test : (b c : Bool) → nat_le s.from end ≡ c → filter (by end) (filter (since begin) ss) ≡ begun_within begin end ss
        → filter (by end) (if b then s ∷ filter (since begin) ss else filter (since begin) ss) ≡ (if b && c then s ∷ begun_within begin end ss else begun_within begin end ss)
    by_test true true e rest = rw e (ap (λ xs. s ∷ xs) rest)
    by_test true false e rest = rw e rest
    by_test false c e rest = rest

pub shorter : (t : ℕ) (ss later : List Stretch) → later ≡ filter (since t) ss → length later ≤ length ss
shorter t ss later e = omega (arith, fewer t ss, ap length e)

-- the front that begins in the round
pub front : (begin end : ℕ) (pulses begun later : List Stretch) → IsWave begun → begun ≡ filter (since begin) pulses → later ≡ filter (since (end + 1)) begun
    → take (length begun - length later) begun ≡ begun_within begin end pulses
front begin end pulses begun later wave first past =
    ap (λ (xs : List Stretch). take (length begun - length xs) begun) past ∙ take_by end 0 begun wave ∙ ap (filter (by end)) first ∙ twice begin end pulses

-- a front of pulses in order is in order
pub take_order : (n from : ℕ) (ss : List Stretch) → IsWaveFrom from ss → IsWaveFrom from (take n ss)
take_order zero from [] w = tt
take_order (suc n) from [] w = tt
take_order zero from (s ∷ ss) w = tt
take_order (suc n) from (s ∷ ss) w = (w.0, w.1, take_order n (s.to + 1) ss w.2)
