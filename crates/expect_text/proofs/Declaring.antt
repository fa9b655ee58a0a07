-- The devices of a topology, line by line.
use Rattle.std.proofs.Common.{◌≡◌, ℕ, suc, ◌+◌, ◌-◌, ◌≤◌, ◌<◌, ◌==◌, false, List, [], ◌∷◌, ◌++◌, Option, Some, length, map, take, refl, sym, ap, ◌∙◌, arith, append_assoc}
use Rattle.std.proofs.lemmas.Grind.{common_steps}
use Rattle.text_core.specs.Words.{words_of}
use Rattle.expect_text.specs.Faults.{declared_in, named_or, names_in}

longer : {X : Type 0} (items : List X) (x : X) → length (items ++ x ∷ []) ≡ length items + 1
longer [] x = omega arith
longer (y ∷ items) x = let more = longer items x in omega (arith, more)

mapped : {X : Type 0} (f : X → List ℕ) (items : List X) (x : X) → map f (items ++ x ∷ []) ≡ map f items ++ f x ∷ []
mapped f [] x = refl
mapped f (y ∷ items) x = ap (λ (t : List (List ℕ)). f y ∷ t) (mapped f items x)

not_all : (n : ℕ) → (n == 15) ≡ false → n ≤ 15 → n < 15
not_all n h l = grind (arith, common_steps)

-- a name more
pub name_more : {X : Type 0} (f : X → List ℕ) (all : List (List ℕ)) (items new : List X) (x : X) (lines rest : List (List ℕ)) → all ≡ map f items ++ take (15 - length items) lines
    → lines ≡ f x ∷ rest → (length items == 15) ≡ false → length items ≤ 15 → new ≡ items ++ x ∷ [] → all ≡ map f new ++ take (15 - length new) rest
name_more f all items new x lines rest e l room most n =
    let few = not_all (length items) room most in
    let long = ap length n ∙ longer items x in
    let count : 15 - length items ≡ suc (15 - length new) = omega (arith, few, long) in
    e ∙ ap (λ (ls : List (List ℕ)). map f items ++ take (15 - length items) ls) l
    ∙ ap (λ (k : ℕ). map f items ++ take k (f x ∷ rest)) count
    ∙ sym (append_assoc (map f items) (f x ∷ []) (take (15 - length new) rest))
    ∙ ap (λ (ms : List (List ℕ)). ms ++ take (15 - length new) rest) (sym (mapped f items x) ∙ ap (map f) (sym n))

-- the names of a line that declares one, and of those after it
pub name_first : (name line : List ℕ) (all lines : List (List ℕ)) → Some name ≡ declared_in (words_of line) → all ≡ line ∷ lines → names_in all ≡ name ∷ names_in lines
name_first name line all lines h e = ap names_in e ∙ ap (λ (o : Option (List ℕ)). named_or o (names_in lines)) (sym h)
