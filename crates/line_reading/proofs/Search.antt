-- The first microsecond that passes a test.
use Rattle.std.proofs.Common.{◌≡◌, ℕ, zero, suc, ◌+◌, ◌<◌, ◌≤◌, Bool, true, false, if◌then◌else◌, inl, inr, Some, None, refl, sym, ◌∙◌, arith}
use Rattle.std.proofs.lemmas.Bool.{cases_lt}
use Rattle.line_reading.specs.Reading.{first_in}
use Rattle.line_reading.specs.Searches.{Found, FoundIsFirst, MissedPassNone, FirstIsFound, NoneIsFound, AlikeFindAlike}

pub first_in_none : NoneIsFound
unfolding first_in
first_in_none test from zero h = refl
first_in_none test from (suc count) h =
    rw (h from (omega arith) (omega arith)) (first_in_none test (from + 1) count (λ u l m. h u (omega arith) (omega arith)))

pub first_in_some : FirstIsFound
unfolding first_in
first_in_some test from zero t l m h before = absurd (omega arith)
first_in_some test from (suc count) t l m h before =
    elim (cases_lt from t) [
      | inl lt ↦ rw (before from (omega arith) lt) (first_in_some test (from + 1) count t (omega arith) (omega arith) h (λ u a b. before u (omega arith) b))
      | inr e ↦ let f : t ≡ from = omega arith in let g : test from ≡ true = rw f at h in rw (g, f) refl
    ]

-- tests that agree where it looks find the same
pub first_in_agree : AlikeFindAlike
unfolding first_in
first_in_agree p q from zero h = refl
first_in_agree p q from (suc count) h =
    rw (h from (omega arith) (omega arith), first_in_agree p q (from + 1) count (λ u l m. h u (omega arith) (omega arith))) refl

-- ---- what a search has found

pub found_first : FoundIsFirst
unfolding first_in
found_first p from zero f h = cc
found_first p from (suc count) f h = step (p from) refl h (λ g. found_first p (from + 1) count f g)
  where
    step : (b : Bool) → p from ≡ b → (if b then Some from else first_in p (from + 1) count) ≡ Some f
        → (first_in p (from + 1) count ≡ Some f → Found p (from + 1) count f) → Found p from (suc count) f
    step true e g r =
        let s : from ≡ f = cc in
        record { passes = rw (sym s) e; after = omega arith; within = omega arith; first = λ u l m. absurd (omega arith) }
    step false e g r =
        let q = r g in
        record {
          passes = q.passes;
          after = omega (arith, q.after);
          within = omega (arith, q.within);
          first = λ u l m. elim (cases_lt from u) [ inl lt ↦ q.first u (omega arith) m | inr ge ↦ let s : u ≡ from = omega arith in rw s e ];
        }

pub found_none : MissedPassNone
unfolding first_in
found_none p from zero h u l m = absurd (omega arith)
found_none p from (suc count) h u l m = step (p from) refl h (λ g x a b. found_none p (from + 1) count g x a b)
  where
    step : (b : Bool) → p from ≡ b → (if b then Some from else first_in p (from + 1) count) ≡ None
        → (first_in p (from + 1) count ≡ None → (x : ℕ) → from + 1 ≤ x → x < from + 1 + count → p x ≡ false) → p u ≡ false
    step true e g r = cc
    step false e g r = elim (cases_lt from u) [ inl lt ↦ r g u (omega arith) (omega arith) | inr ge ↦ let s : u ≡ from = omega arith in rw s e ]

-- tests that agree up to where one of them finds find the same
pub first_in_till : (p q : ℕ → Bool) (from count g : ℕ) → first_in q from count ≡ Some g → ((u : ℕ) → from ≤ u → u ≤ g → p u ≡ q u) → first_in p from count ≡ Some g
first_in_till p q from count g h a =
    let d = found_first q from count g h in
    first_in_some p from count g d.after d.within (a g d.after (omega arith) ∙ d.passes) (λ u l m. a u l (omega arith) ∙ d.first u l m)

-- what is found stays found in a longer search
pub first_in_longer : (p : ℕ → Bool) (from count more g : ℕ) → count ≤ more → first_in p from count ≡ Some g → first_in p from more ≡ Some g
first_in_longer p from count more g l h =
    let d = found_first p from count g h in
    first_in_some p from more g d.after (omega (arith, d.within)) d.passes d.first
