-- Lines after lines.
use Rattle.std.proofs.Common.{◌≡◌, ℕ, List, ◌++◌, flat_map, ap, sym, ◌∙◌, append_assoc}
use Rattle.std.proofs.lemmas.Grind.{flat_map-append}
use Rattle.meaning_words.specs.Notes.{own_line}

-- some lines, and then some
pub joined : (x y z : List ℕ) (a b : List (List ℕ)) → y ≡ x ++ flat_map own_line a → z ≡ y ++ flat_map own_line b → z ≡ x ++ flat_map own_line (a ++ b)
joined x y z a b e f =
    f ∙ ap (λ k. k ++ flat_map own_line b) e ∙ append_assoc x (flat_map own_line a) (flat_map own_line b)
    ∙ ap (λ k. x ++ k) (sym (flat_map-append own_line a b))
