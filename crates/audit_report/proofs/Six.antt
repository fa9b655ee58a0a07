-- Texts of several parts.
use Rattle.std.proofs.Common.{◌≡◌, ℕ, List, ◌++◌, subst}
use Rattle.text_core.specs.Adds.{Adds, Tally}
use Rattle.text_core.proofs.Adding.{then}

-- six parts, one after another
pub six : (a b c d e f g : Tally) (s t u v w x : List ℕ) → Adds a b s → Adds b c t → Adds c d u → Adds d e v → Adds e f w → Adds f g x
    → Adds a g (s ++ (t ++ (u ++ (v ++ (w ++ x)))))
six a b c d e f g s t u v w x one two three four five last =
    then a b g s (t ++ (u ++ (v ++ (w ++ x)))) one
    (then b c g t (u ++ (v ++ (w ++ x))) two
    (then c d g u (v ++ (w ++ x)) three
    (then d e g v (w ++ x) four
    (then e f g w x five last))))

-- a text by another name
pub adds_as : (a b : Tally) (x y : List ℕ) → x ≡ y → Adds a b x → Adds a b y
adds_as a b x y e one = subst (λ (z : List ℕ). Adds a b z) e one
