-- 3D of the video codes of an EDID, in an HDMI block (HDMI 1.4, section 8.3.2; appendix H.2 for the structures), of the bytes after
-- HDMI's own codes, as far as they are counted.
use Rattle.std.specs.Prelude.{ℕ, ◌+◌, ◌*◌, ◌/◌, ◌%◌, ◌==◌, ◌&&◌, nat_le, nat_lt, Bool, if◌then◌else◌, List, [], ◌∷◌, ◌++◌, length, drop, slice_index, codes}
use Rattle.meaning_words.specs.Notes.{Row, row, below, is_set, set_words, rest_words}
use Rattle.meaning_fields.specs.Fields.{Row as FieldRow, row as field, words, hex, field_words}
use Rattle.meaning_fields.specs.Places.{place_text}

-- ---- 3D_Structure_ALL: 16 bits, the high byte first

abbrev pub structure_rows : List Row
structure_rows =
    row 1 (codes "3D frame packing") ∷
    row 2 (codes "3D field alternative") ∷
    row 4 (codes "3D line alternative") ∷
    row 8 (codes "3D side by side (full)") ∷
    row 16 (codes "3D L + depth") ∷
    row 32 (codes "3D L + depth + graphics") ∷
    row 64 (codes "3D top and bottom") ∷
    row 128 (codes "reserved 3D structure 7") ∷
    row 256 (codes "3D side by side (half)") ∷
    row 512 (codes "reserved 3D structure 9") ∷
    row 1024 (codes "reserved 3D structure 10") ∷
    row 2048 (codes "reserved 3D structure 11") ∷
    row 4096 (codes "reserved 3D structure 12") ∷
    row 8192 (codes "reserved 3D structure 13") ∷
    row 16384 (codes "reserved 3D structure 14") ∷
    row 32768 (codes "3D side by side (half) quincunx") ∷ []

abbrev pub high_first : List ℕ → ℕ
high_first p = slice_index p 0 * 256 + slice_index p 1

abbrev pub structure_line : List ℕ → List (List ℕ)
structure_line p = below (set_words structure_rows (high_first p))

-- ---- 3D_MASK: 16 bits, the high byte first; bit 0 is the first code

abbrev pub masked_text : List ℕ → ℕ → List ℕ
masked_text svds place = place_text svds place ++ codes ", 3D"

abbrev pub masked_line : List ℕ → ℕ → Bool → List (List ℕ)
masked_line svds place is = if is then masked_text svds place ∷ [] else []

-- the weights of sixteen bits
abbrev pub weights : List ℕ
weights = 1 ∷ 2 ∷ 4 ∷ 8 ∷ 16 ∷ 32 ∷ 64 ∷ 128 ∷ 256 ∷ 512 ∷ 1024 ∷ 2048 ∷ 4096 ∷ 8192 ∷ 16384 ∷ 32768 ∷ []

unfoldable pub masked_lines : List ℕ → List ℕ → ℕ → ℕ → List (List ℕ)
masked_lines svds [] place bits = []
masked_lines svds (w ∷ ws) place bits = masked_line svds place (is_set bits w) ++ masked_lines svds ws (place + 1) bits

abbrev pub mask_meanings : List ℕ → List ℕ → List (List ℕ)
mask_meanings svds p = masked_lines svds weights 0 (high_first p)

-- ---- entries: the place of a code in four bits, its structure in four, and from structure 8 on a byte of detail

abbrev pub entry_rows : List FieldRow
entry_rows =
    field 0 1 1 16 (words (codes ", 3D structure ") (codes ", 3D frame packing" ∷ codes ", 3D field alternative" ∷ codes ", 3D line alternative" ∷ codes ", 3D side by side (full)" ∷ codes ", 3D L + depth" ∷ codes ", 3D L + depth + graphics" ∷ codes ", 3D top and bottom" ∷ codes ", reserved 3D structure 7" ∷ codes ", 3D side by side (half)" ∷ [])) ∷
    field 1 1 16 16 (words (codes ", detail ") ([] ∷ codes ", horizontal" ∷ codes ", reserved detail 2" ∷ codes ", reserved detail 3" ∷ codes ", reserved detail 4" ∷ codes ", reserved detail 5" ∷ codes ", all quincunx" ∷ codes ", quincunx odd left, odd right" ∷ codes ", quincunx odd left, even right" ∷ codes ", quincunx even left, odd right" ∷ codes ", quincunx even left, even right" ∷ [])) ∷
    field 1 1 1 16 (hex (codes ", reserved bits ") 1) ∷ []

abbrev pub entry_text : List ℕ → List ℕ → List ℕ
entry_text svds e = place_text svds (slice_index e 0 / 16) ++ field_words entry_rows e

unfoldable pub entries : List ℕ → List ℕ → List (List ℕ)
entries svds [] = []
entries svds (b ∷ []) = entry_text svds (b ∷ []) ∷ []
entries svds (b ∷ d ∷ more) = if nat_lt (b % 16) 8 then entry_text svds (b ∷ []) ∷ entries svds (d ∷ more) else entry_text svds (b ∷ d ∷ []) ∷ entries svds more

-- ---- all of it: 3D_Multi_present says whether structures stand first, and after them a mask

abbrev pub first_meanings : List ℕ → List ℕ → List (List ℕ)
first_meanings svds p = structure_line p ++ entries svds (drop 2 p)

abbrev pub some_meanings : List ℕ → List ℕ → List (List ℕ)
some_meanings svds p = structure_line p ++ (mask_meanings svds (drop 2 p) ++ entries svds (drop 4 p))

abbrev pub left_line : List ℕ → List (List ℕ)
left_line p = below (rest_words p)

-- bytes that are fewer stay in hex
abbrev pub first_part : List ℕ → List ℕ → List (List ℕ)
first_part svds p = if nat_le 2 (length p) then first_meanings svds p else left_line p

abbrev pub some_part : List ℕ → List ℕ → List (List ℕ)
some_part svds p = if nat_le 4 (length p) then some_meanings svds p else left_line p

unfoldable pub stereo_meanings : List ℕ → ℕ → List ℕ → List (List ℕ)
stereo_meanings svds multi p =
    if multi == 1 then first_part svds p else if multi == 2 then some_part svds p else entries svds p
