-- The count of extensions in the place of byte 126 of the base block, HF-EEODB (HDMI 2.1, section 10.3.7).
use Rattle.std.specs.Prelude.{ℕ, List, [], ◌∷◌, codes}
use Rattle.meaning_fields.specs.Fields.{Row, row, number, block_meanings}

abbrev pub count_rows : List Row
count_rows =
    row 0 1 1 256 (number (codes " ") 1 0 []) ∷ []

abbrev pub count_meanings : List ℕ → List (List ℕ)
count_meanings p = block_meanings (codes ", count of extensions") count_rows 1 p
