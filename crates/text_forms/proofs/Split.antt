-- Words of a line that are kept apart.
use Rattle.std.proofs.Common.{◌≡◌, List, [], ◌∷◌, ◌++◌, map, refl, sym, ap, ◌∙◌, append_assoc}

mapped : {X Y : Type 0} (f : X → Y) (xs : List X) (x : X) → map f (xs ++ x ∷ []) ≡ map f xs ++ f x ∷ []
mapped f [] x = refl
mapped f (y ∷ xs) x = ap (λ t. f y ∷ t) (mapped f xs x)

-- a word more
pub word_more : {X Y : Type 0} (f : X → Y) (xs new : List X) (x : X) (all rest left : List Y)
    → all ≡ map f xs ++ rest → rest ≡ f x ∷ left → new ≡ xs ++ x ∷ [] → all ≡ map f new ++ left
word_more f xs new x all rest left e l n =
    e ∙ ap (λ t. map f xs ++ t) l ∙ sym (append_assoc (map f xs) (f x ∷ []) left) ∙ ap (λ t. t ++ left) (sym (mapped f xs x) ∙ ap (map f) (sym n))
