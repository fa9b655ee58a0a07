-- The refused events that a script expects, read once, are those that are found line by line.
use Rattle.std.proofs.Common.{◌≡◌, ℕ, ◌+◌, ◌==◌, ◌||◌, Bool, true, false, cond, List, [], ◌∷◌, nat_eq, refl, sym, ap, ◌∙◌}
use Rattle.std.specs.HashSet.{HashSet, Updates, contains}
use Rattle.expect_judge.specs.Judged.{line_expects, lines_expect}

or_not : (b : Bool) → (b || false) ≡ b
or_not true = refl
or_not false = refl

-- a line that expects none
pub no_more : (a b : Bool) → b ≡ false → a ≡ (a || b)
no_more a b none = sym (ap (λ c. a || c) none ∙ or_not a)

-- one that is put
pub put : {S : Type 0} (line : ℕ) (s n : HashSet ℕ S) → Updates nat_eq s n line true → (number : ℕ) → contains nat_eq n number ≡ (contains nat_eq s number || (line == number))
put line s n updates number = updates.0 number ∙ by (nat_eq line number) (contains nat_eq s number)
  where
    by : (b c : Bool) → cond b true c ≡ (c || b)
    by true true = refl
    by true false = refl
    by false true = refl
    by false false = refl

or_assoc : (a b c : Bool) → ((a || b) || c) ≡ (a || (b || c))
or_assoc true b c = refl
or_assoc false b c = refl

-- a line more
pub one_more : (a : Bool) (script : List ℕ) (own number : ℕ) (line : List ℕ) (rest : List (List ℕ))
    → ((a || line_expects script own number line) || lines_expect script (own + 1) number rest) ≡ (a || lines_expect script own number (line ∷ rest))
one_more a script own number line rest = or_assoc a (line_expects script own number line) (lines_expect script (own + 1) number rest)

pub all_noted : (a : Bool) (script : List ℕ) (own number : ℕ) (lines : List (List ℕ)) → lines ≡ [] → (a || lines_expect script own number lines) ≡ a
all_noted a script own number lines none = ap (λ (ls : List (List ℕ)). a || lines_expect script own number ls) none ∙ or_not a
