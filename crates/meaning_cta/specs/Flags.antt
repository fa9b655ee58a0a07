-- What byte 3 of a CTA extension means (CTA-861-G, section 7.5).
use Rattle.std.specs.Prelude.{ℕ, ◌%◌, List, [], ◌∷◌, ◌++◌, slice_index, codes}
use Rattle.meaning_words.specs.Notes.{Row, row, below, counted_text, set_words}

abbrev pub flag_rows : List Row
flag_rows =
    row 128 (codes "underscans") ∷
    row 64 (codes "basic audio") ∷
    row 32 (codes "YCbCr 4:4:4") ∷
    row 16 (codes "YCbCr 4:2:2") ∷ []

-- the low four bits count the native detailed timings
abbrev pub flag_words : ℕ → List ℕ
flag_words flags = set_words flag_rows flags ++ (codes ", " ++ counted_text (flags % 16) (codes " native timing"))

unfoldable pub flag_meanings : List ℕ → List (List ℕ)
flag_meanings payload = below (flag_words (slice_index payload 0))
