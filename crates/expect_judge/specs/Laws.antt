-- Laws of expectations of rounds (own).
use Rattle.std.specs.Prelude.{◌≡◌, ℕ, ◌≤◌, Bool, true, false, List, Some}
use Rattle.expect_text.specs.declared.form.Bound.TheVariants.{AtMost, AtLeast}
use Rattle.expect_text.specs.declared.form.Quantity.TheVariants.{AtLeastOnce, Never, Once, Counted}
use Rattle.expect_text.specs.Faults.{labelled_from}
use Rattle.expect_judge.specs.Judged.{rounds_judged}
use Rattle.expect_judge.specs.Told.{RoundLine}
use Rattle.expect_judge.specs.Named.{name_lines}
use Rattle.expect_judge.specs.Seen.{ends_seen, rounds_seen}
use Rattle.expect_judge.specs.declared.seen.TimeSpan.{TimeSpan}

-- `none` fails where the plain form holds, in the same span, and holds where that fails
pub record NeverIsTheContrary : Type 0 where
  pub fails : (rounds : List RoundLine) (pattern : List ℕ) (span : TimeSpan) → (rounds_judged rounds AtLeastOnce pattern (Some span)).holds ≡ Some true → (rounds_judged rounds Never pattern (Some span)).holds ≡ Some false
  pub holds : (rounds : List RoundLine) (pattern : List ℕ) (span : TimeSpan) → (rounds_judged rounds AtLeastOnce pattern (Some span)).holds ≡ Some false → (rounds_judged rounds Never pattern (Some span)).holds ≡ Some true

-- where `once` holds, the plain form does
abbrev pub OnceIsSome : Type 0
OnceIsSome = (rounds : List RoundLine) (pattern : List ℕ) (span : TimeSpan) → (rounds_judged rounds Once pattern (Some span)).holds ≡ Some true → (rounds_judged rounds AtLeastOnce pattern (Some span)).holds ≡ Some true

-- an expectation of at least so many goes on to hold in a larger span, one of at most so many in a smaller one
pub record LargerSpansHold : Type 0 where
  pub some : (rounds : List RoundLine) (pattern : List ℕ) (small large : TimeSpan) → large.from ≤ small.from → small.to ≤ large.to
      → (rounds_judged rounds AtLeastOnce pattern (Some small)).holds ≡ Some true → (rounds_judged rounds AtLeastOnce pattern (Some large)).holds ≡ Some true
  pub least : (n : ℕ) (rounds : List RoundLine) (pattern : List ℕ) (small large : TimeSpan) → large.from ≤ small.from → small.to ≤ large.to
      → (rounds_judged rounds (Counted AtLeast n) pattern (Some small)).holds ≡ Some true → (rounds_judged rounds (Counted AtLeast n) pattern (Some large)).holds ≡ Some true
  pub most : (n : ℕ) (rounds : List RoundLine) (pattern : List ℕ) (small large : TimeSpan) → large.from ≤ small.from → small.to ≤ large.to
      → (rounds_judged rounds (Counted AtMost n) pattern (Some large)).holds ≡ Some true → (rounds_judged rounds (Counted AtMost n) pattern (Some small)).holds ≡ Some true

-- the line that a label stands for is one that others speak of
abbrev pub LabelledLinesAreNamed : Type 0
LabelledLinesAreNamed = (of_events : Bool) (number : ℕ) (lines : List (List ℕ)) (name : List ℕ) (found : ℕ) → labelled_from of_events number lines name ≡ Some found
    → name_lines number lines found ≡ true

-- where the same rounds are seen, they end at the same instants
abbrev pub SameRoundsEndTogether : Type 0
SameRoundsEndTogether = (xs ys : List RoundLine) (span : TimeSpan) (pattern : List ℕ) → rounds_seen xs span pattern ≡ rounds_seen ys span pattern
    → ends_seen xs span pattern ≡ ends_seen ys span pattern
