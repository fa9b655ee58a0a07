-- Records, one after another.
use Rattle.std.proofs.Common.{◌≡◌, ℕ, ◌≤◌, List, [], ◌∷◌, ◌++◌, length, drop, get_or, subst, arith}
use Rattle.text_core.specs.Adds.{Adds, Tally}
use Rattle.text_core.proofs.Adding.{then}

-- the text of a list is that of its first, and then that of the others
pub first_then : {A : Type 0} (first : A → List ℕ) (others : List A → List ℕ) (whole : List A → List ℕ) → ((y : A) (ys : List A) → first y ++ others ys ≡ whole (y ∷ ys))
    → (xs : List A) (x d : A) (a b c : Tally) → 1 ≤ length xs → x ≡ get_or xs 0 d → Adds a b (first x) → Adds b c (others (drop 1 xs)) → Adds a c (whole xs)
first_then first others whole step [] x d a b c h e one more = absurd (omega (arith, h))
first_then {A} first others whole step (y ∷ ys) x d a b c h e one more =
    let one-is : Adds a b (first y) = subst (λ (z : A). Adds a b (first z)) e one in
    subst (Adds a c) (step y ys) (then a b c _ _ one-is more)
