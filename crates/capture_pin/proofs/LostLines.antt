-- Lines of lost events, one after another.
use Rattle.std.proofs.Common.{◌≡◌, ℕ, ◌+◌, ◌++◌, if◌then◌else◌, List, [], ◌∷◌, sym, ap, ◌∙◌, append_assoc}
use Rattle.capture_pin.specs.Lost.{is_lost, lost_in}

pub lost_more : (number : ℕ) (line : List ℕ) (lines after : List (List ℕ)) (all old new : List ℕ) → all ≡ old ++ lost_in number lines → lines ≡ line ∷ after
    → new ≡ old ++ (if is_lost line then number ∷ [] else []) → all ≡ new ++ lost_in (number + 1) after
lost_more number line lines after all old new so_far cut grown =
    so_far ∙ ap (λ ls. old ++ lost_in number ls) cut ∙ sym (append_assoc old (if is_lost line then number ∷ [] else []) (lost_in (number + 1) after))
    ∙ ap (λ xs. xs ++ lost_in (number + 1) after) (sym grown)
