-- The times of a script's labelled events, read once.
use Rattle.std.proofs.Common.{◌≡◌, ℕ, ◌+◌, ◌<◌, ◌==◌, Bool, true, false, if◌then◌else◌, List, [], ◌∷◌, Option, Some, None, nat_eq, refl, ap, ◌∙◌, arith}
use Rattle.std.specs.HashMap.{HashMap, Updates, get}
use Rattle.std.proofs.lemmas.Bool.Decides.{nat_tests}
use Rattle.expect_text.specs.Labels.{or_line}
use Rattle.expect_judge.specs.Judged.{noted}
use Rattle.expect_run.specs.Kept.{labelled_time, times_from}

-- a time that is put
pub put : {S : Type 0} (number time : ℕ) (m n : HashMap ℕ ℕ S) → Updates nat_eq m n number (Some time) → (other : ℕ) → get nat_eq n other ≡ noted (λ line. get nat_eq m line) number (Some time) other
put number time m n updates other = updates.0 other

differ : (m n : ℕ) → n < m → (m == n) ≡ false
differ m n h = grind (arith, nat_tests)

same : (m n : ℕ) → (m == n) ≡ true → m ≡ n
same m n h = grind (arith, nat_tests)

above : (m n : ℕ) → m ≡ n → n < m + 1
above m n h = omega (arith, h)

-- no line before the first
pub none_before : (lines : List (List ℕ)) (first number : ℕ) → number < first → times_from first lines number ≡ None
none_before [] first number h = refl
none_before (line ∷ lines) first number h =
    ap (λ (b : Bool). if b then labelled_time line else times_from (first + 1) lines number) (differ first number h) ∙ none_before lines (first + 1) number (omega (arith, h))

-- a line more
pub one_more : (at : ℕ → Option ℕ) (number other : ℕ) (line : List ℕ) (rest : List (List ℕ))
    → or_line (times_from (number + 1) rest other) (noted at number (labelled_time line) other) ≡ or_line (times_from number (line ∷ rest) other) (at other)
one_more at number other line rest = by (number == other) refl
  where
    here : (o : Option ℕ) → (number == other) ≡ true → noted at number o other ≡ or_line o (at other)
    here None e = refl
    here (Some time) e = ap (λ (b : Bool). if b then Some time else at other) e

    there : (o : Option ℕ) → (number == other) ≡ false → noted at number o other ≡ at other
    there None e = refl
    there (Some time) e = ap (λ (b : Bool). if b then Some time else at other) e

    by : (b : Bool) → (number == other) ≡ b
        → or_line (times_from (number + 1) rest other) (noted at number (labelled_time line) other) ≡ or_line (if b then labelled_time line else times_from (number + 1) rest other) (at other)
    by true e =
        ap (λ (o : Option ℕ). or_line o (noted at number (labelled_time line) other)) (none_before rest (number + 1) other (above number other (same number other e))) ∙ here (labelled_time line) e
    by false e = ap (or_line (times_from (number + 1) rest other)) (there (labelled_time line) e)

pub no_more : (number other : ℕ) (lines : List (List ℕ)) (o : Option ℕ) → lines ≡ [] → or_line (times_from number lines other) o ≡ o
no_more number other lines o none = ap (λ (ls : List (List ℕ)). or_line (times_from number ls other) o) none
