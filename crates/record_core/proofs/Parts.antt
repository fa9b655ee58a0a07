-- A line in its parts.
use Rattle.std.proofs.Common.{◌≡◌, ℕ, codes, List, [], ◌∷◌, ◌++◌, append_assoc, refl, ap, ◌∙◌}
use Rattle.std.specs.List.{concat}
use Rattle.record_core.specs.Cells.{PlainCell}
use Rattle.record_core.specs.Records.{LinesHaveParts, line_parts, said, shown_text}

step : (lead word rest : List ℕ) (parts : List ℕ) → rest ++ codes "\n" ≡ parts → ((lead ++ word) ++ rest) ++ codes "\n" ≡ lead ++ (word ++ parts)
step lead word rest parts e =
    append_assoc (lead ++ word) rest (codes "\n") ∙ append_assoc lead word (rest ++ codes "\n") ∙ ap (λ (t : List ℕ). lead ++ (word ++ t)) e

pub parted : LinesHaveParts
parted [] = refl
parted (c ∷ cells) = step c.lead (shown_text c.shown c.value.word) (said cells) (concat (line_parts cells)) (parted cells)
