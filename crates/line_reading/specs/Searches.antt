-- What a search of a line's instants finds: the first that passes a test (own).
use Rattle.std.specs.Prelude.{◌≡◌, ℕ, ◌+◌, ◌<◌, ◌≤◌, Bool, true, false, Some, None}
use Rattle.line_reading.specs.Reading.{first_in}

-- f is the first of these `count` instants that passes the test
pub record Found (p : ℕ → Bool) (from count f : ℕ) : Type 0 where
  pub passes : p f ≡ true
  pub after : from ≤ f
  pub within : f < from + count
  pub first : (u : ℕ) → from ≤ u → u < f → p u ≡ false

-- What is found is that one.
abbrev pub FoundIsFirst : Type 0
FoundIsFirst = (p : ℕ → Bool) (from count f : ℕ) → first_in p from count ≡ Some f → Found p from count f

-- Where nothing is found, none passes.
abbrev pub MissedPassNone : Type 0
MissedPassNone = (p : ℕ → Bool) (from count : ℕ) → first_in p from count ≡ None → (u : ℕ) → from ≤ u → u < from + count → p u ≡ false

-- The first that passes is found.
abbrev pub FirstIsFound : Type 0
FirstIsFound =
    (test : ℕ → Bool) (from count t : ℕ) → from ≤ t → t < from + count → test t ≡ true → ((u : ℕ) → from ≤ u → u < t → test u ≡ false) → first_in test from count ≡ Some t

-- Where none passes, nothing is found.
abbrev pub NoneIsFound : Type 0
NoneIsFound = (test : ℕ → Bool) (from count : ℕ) → ((u : ℕ) → from ≤ u → u < from + count → test u ≡ false) → first_in test from count ≡ None

-- Tests that agree where a search looks find the same.
abbrev pub AlikeFindAlike : Type 0
AlikeFindAlike = (p q : ℕ → Bool) (from count : ℕ) → ((u : ℕ) → from ≤ u → u < from + count → p u ≡ q u) → first_in p from count ≡ first_in q from count
