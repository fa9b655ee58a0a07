-- What the descriptor of CVT codes means (E-EDID Release A2, section 3.10.3.8), of its 18 bytes: four codes of three bytes.
use Rattle.std.specs.Prelude.{ℕ, ◌+◌, ◌*◌, ◌/◌, ◌%◌, ◌==◌, ◌&&◌, if◌then◌else◌, List, [], ◌∷◌, ◌++◌, drop, take, slice_index, codes}
use Rattle.meaning_words.specs.Notes.{text_between}
use Rattle.meaning_fields.specs.Fields.{Row, row, word, words, number, hex, field_words, block_meanings}

-- of twelve bits, in byte 1 and the high half of byte 2
abbrev pub line_count : List ℕ → ℕ
line_count q = 2 * (slice_index q 0 + slice_index q 1 / 16 * 256 + 1)

-- in eights, rounded down: 4:3, 16:9, 16:10 or 15:9
abbrev pub width_of : ℕ → ℕ → ℕ
width_of aspect lines =
    if aspect == 0 then lines * 4 / 3 / 8 * 8
    else if aspect == 1 then lines * 16 / 9 / 8 * 8
    else if aspect == 2 then lines * 16 / 10 / 8 * 8
    else lines * 15 / 9 / 8 * 8

abbrev pub picture_text : List ℕ → List ℕ
picture_text q = text_between [] (width_of (slice_index q 1 / 4 % 4) (line_count q)) (codes "x") ++ text_between [] (line_count q) []

-- field rates
abbrev pub rate_rows : List Row
rate_rows =
    row 2 1 32 4 (words [] (codes ", preferred at 50 Hz" ∷ codes ", preferred at 60 Hz" ∷ codes ", preferred at 75 Hz" ∷ codes ", preferred at 85 Hz" ∷ [])) ∷
    row 2 1 16 2 (word (codes ", 50 Hz")) ∷
    row 2 1 8 2 (word (codes ", 60 Hz")) ∷
    row 2 1 4 2 (word (codes ", 75 Hz")) ∷
    row 2 1 2 2 (word (codes ", 85 Hz")) ∷
    row 2 1 1 2 (word (codes ", 60 Hz with reduced blanking")) ∷
    row 1 1 1 4 (hex (codes ", reserved bits ") 1) ∷
    row 2 1 128 2 (hex (codes ", reserved bits ") 128) ∷ []

abbrev pub code_text : List ℕ → List ℕ
code_text q = picture_text q ++ field_words rate_rows q

-- three zeros are no code
abbrev pub used_line : List ℕ → List (List ℕ)
used_line q = if (slice_index q 0 == 0) && ((slice_index q 1 == 0) && (slice_index q 2 == 0)) then [] else code_text q ∷ []

abbrev pub code_line : ℕ → List ℕ → List (List ℕ)
code_line place p = used_line (take 3 (drop place p))

abbrev pub head_rows : List Row
head_rows =
    row 4 1 1 256 (hex (codes ", byte 5 is ") 1) ∷
    row 5 1 1 256 (number (codes ", revision ") 1 0 []) ∷ []

abbrev pub head_lines : List ℕ → List (List ℕ)
head_lines p = block_meanings [] head_rows 18 p

abbrev pub cvt_meanings : List ℕ → List (List ℕ)
cvt_meanings p = head_lines p ++ (code_line 6 p ++ (code_line 9 p ++ (code_line 12 p ++ code_line 15 p)))
