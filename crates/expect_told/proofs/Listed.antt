-- Texts of the elements of a list, one after another.
use Rattle.std.proofs.Common.{◌≡◌, ◌++◌, [], ◌∷◌, List, ℕ, map, ap, refl, subst, sym}
use Rattle.std.specs.List.{flat_map}
use Rattle.text_core.specs.Adds.{Adds, Tally}
use Rattle.text_core.proofs.Adding.{then}
use Rattle.room_trace.specs.TraceText.{comma_list}

-- the first one's, and then those of the others
pub one_by_one : {X : Type 0} (f : X → List ℕ) (x : X) (xs all : List X) (a b c : Tally) → all ≡ x ∷ xs → Adds a b (f x) → Adds b c (flat_map f xs) → Adds a c (flat_map f all)
one_by_one {X} f x xs all a b c split first others = subst (λ (ys : List X). Adds a c (flat_map f ys)) (sym split) (then a b c (f x) (flat_map f xs) first others)

mapped : {X : Type 0} (f : X → List ℕ) (xs : List X) → flat_map (λ t. 44 ∷ t) (map f xs) ≡ flat_map (λ x. 44 ∷ f x) xs
mapped f [] = refl
mapped f (x ∷ xs) = ap (λ (t : List ℕ). (44 ∷ f x) ++ t) (mapped f xs)

-- the first one's, and then each after a comma
pub listed : {X : Type 0} (f : X → List ℕ) (x : X) (xs all : List X) (a b c : Tally) → all ≡ x ∷ xs → Adds a b (f x) → Adds b c (flat_map (λ x. 44 ∷ f x) xs) → Adds a c (comma_list (map f all))
listed {X} f x xs all a b c split first others =
    subst (λ (ys : List X). Adds a c (comma_list (map f ys))) (sym split)
    (then a b c (f x) (flat_map (λ t. 44 ∷ t) (map f xs)) first (subst (λ (t : List ℕ). Adds b c t) (sym (mapped f xs)) others))
