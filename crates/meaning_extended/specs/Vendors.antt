-- What blocks of HDR10+, of Dolby's audio and of Microsoft mean, of the bytes after the identifier (no clause of a public standard:
-- as open readers of EDIDs have them). What of them is less sure keeps its bytes beside the words.
use Rattle.std.specs.Prelude.{ℕ, List, [], ◌∷◌, codes}
use Rattle.meaning_fields.specs.Fields.{Row, row, word, number, hex, block_meanings}

abbrev pub plus_rows : List Row
plus_rows =
    row 0 1 1 4 (number (codes " version ") 1 0 []) ∷
    row 0 1 4 64 (hex (codes ", other bits of byte 1 are ") 4) ∷ []

abbrev pub sound_rows : List Row
sound_rows =
    row 0 1 1 8 (number (codes " version ") 1 1 []) ∷
    row 0 1 128 2 (word (codes ", headphones alone")) ∷
    row 0 1 64 2 (word (codes ", height speakers")) ∷
    row 0 1 32 2 (word (codes ", surround speakers")) ∷
    row 0 1 16 2 (word (codes ", centre speaker")) ∷ []

abbrev pub soft_rows : List Row
soft_rows =
    row 0 1 1 256 (number (codes " version ") 1 0 []) ∷
    row 1 1 64 2 (word (codes ", for the desktop")) ∷
    row 1 1 32 2 (word (codes ", by others")) ∷
    row 1 1 1 32 (number (codes ", use case ") 1 0 []) ∷ []

abbrev pub plus_meanings : List ℕ → List (List ℕ)
plus_meanings p = block_meanings (codes ", HDR10+") plus_rows 1 p

-- with its bytes
abbrev pub sound_meanings : List ℕ → List (List ℕ)
sound_meanings p = block_meanings (codes ", Dolby audio") sound_rows 0 p

-- with its bytes
abbrev pub soft_meanings : List ℕ → List (List ℕ)
soft_meanings p = block_meanings (codes ", Microsoft") soft_rows 0 p
