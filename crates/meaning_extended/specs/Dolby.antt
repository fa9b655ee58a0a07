-- What a vendor-specific video block of Dolby means, of the bytes after its identifier (Dolby Vision; no clause of a public standard,
-- versions 1 and 2 as open readers of EDIDs have them; of version 0 the version alone, and its bytes).
use Rattle.std.specs.Prelude.{ℕ, ◌+◌, ◌*◌, ◌/◌, ◌%◌, ◌==◌, ◌&&◌, nat_lt, if◌then◌else◌, List, [], ◌∷◌, ◌++◌, length, drop, slice_index, codes}
use Rattle.meaning_words.specs.Notes.{below, rest_words, text_between}
use Rattle.meaning_fields.specs.Figures.{down_to}
use Rattle.meaning_fields.specs.Fields.{Row, row, word, words, number, hex, share, field_words, block_meanings}
use Rattle.meaning_extended.specs.Lights.{peak, floor}

-- ---- version 0

abbrev pub nought_rows : List Row
nought_rows =
    row 0 1 32 8 (number (codes " version ") 1 0 []) ∷ []

-- ---- version 1: of 10 bytes, or of 7

abbrev pub one_rows : List Row
one_rows =
    row 0 1 32 8 (number (codes " version ") 1 0 []) ∷
    row 0 1 4 8 (number (codes ", display management ") 1 2 (codes ".x")) ∷
    row 0 1 1 2 (word (codes ", YCbCr 4:2:2 at 12 bits")) ∷
    row 0 1 2 2 (word (codes ", 2160p60")) ∷
    row 1 1 1 2 (word (codes ", global dimming")) ∷
    row 1 1 2 128 (number (codes ", up to ") 50 100 (codes " cd/m2")) ∷ []

-- (code / 127) ^ 2 cd/m2
abbrev pub square_text : List ℕ → List ℕ
square_text p = if nat_lt 2 (length p) then down_to (1000 * (slice_index p 2 / 2 * (slice_index p 2 / 2))) 16129 else []

abbrev pub near_rows : List Row
near_rows =
    row 2 1 1 2 (words [] (codes ", near BT.709" ∷ codes ", near P3-D65" ∷ [])) ∷ []

abbrev pub long_rows : List Row
long_rows =
    row 3 1 1 256 (hex (codes ", byte 4 is ") 1) ∷
    row 4 1 1 256 (share (codes ", red ") 0 256) ∷
    row 5 1 1 256 (share (codes " ") 0 256) ∷
    row 6 1 1 256 (share (codes ", green ") 0 256) ∷
    row 7 1 1 256 (share (codes " ") 0 256) ∷
    row 8 1 1 256 (share (codes ", blue ") 0 256) ∷
    row 9 1 1 256 (share (codes " ") 0 256) ∷ []

abbrev pub short_rows : List Row
short_rows =
    row 3 1 1 4 (words (codes ", latency ") (codes ", standard latency" ∷ codes ", standard and low latency" ∷ [])) ∷
    row 3 1 32 8 (share (codes ", blue ") 32 256) ∷
    row 3 1 4 8 (share (codes " ") 8 256) ∷
    row 4 1 2 128 (share (codes ", green ") 0 256) ∷
    row 5 1 2 128 (share (codes " ") 128 256) ∷
    row 6 1 8 32 (share (codes ", red ") 160 256) ∷ []

-- ---- version 2: of 7 bytes

abbrev pub two_rows : List Row
two_rows =
    row 0 1 32 8 (number (codes " version ") 1 0 []) ∷
    row 0 1 4 8 (number (codes ", display management ") 1 2 (codes ".x")) ∷
    row 0 1 1 2 (word (codes ", YCbCr 4:2:2 at 12 bits")) ∷
    row 0 1 2 2 (word (codes ", backlight control")) ∷
    row 1 1 1 4 (number (codes ", backlight from ") 25 25 (codes " cd/m2 on")) ∷
    row 1 1 4 2 (word (codes ", global dimming")) ∷ []

-- luminances by their codes, of five bits each
abbrev pub peak_text : List ℕ → List ℕ
peak_text p = if nat_lt 2 (length p) then text_between (codes ", up to ") (peak (slice_index p 2 / 8)) (codes " cd/m2") else []

abbrev pub floor_text : List ℕ → List ℕ
floor_text p = if nat_lt 1 (length p) then down_to (floor (slice_index p 1 / 8)) 1000000 else []

abbrev pub mode_rows : List Row
mode_rows =
    row 2 1 1 4 (words [] (codes ", low latency" ∷ codes ", low latency, also over HDMI" ∷ codes ", standard and low latency" ∷ codes ", standard and low latency, also over HDMI" ∷ [])) ∷
    row 2 1 4 2 (hex (codes ", reserved bits ") 4) ∷
    row 3 1 1 2 (word (codes ", 4:4:4 at 12 bits")) ∷
    row 4 1 1 2 (word (codes ", 4:4:4 at 10 bits")) ∷ []

abbrev pub point_rows : List Row
point_rows =
    row 5 1 8 32 (share (codes ", red ") 160 256) ∷
    row 6 1 8 32 (share (codes " ") 64 256) ∷
    row 3 1 2 128 (share (codes ", green ") 0 256) ∷
    row 4 1 2 128 (share (codes " ") 128 256) ∷
    row 5 1 1 8 (share (codes ", blue ") 32 256) ∷
    row 6 1 1 8 (share (codes " ") 8 256) ∷ []

-- ---- the lines

-- of 7 bytes of version 1: the y of red has a bit in each of three bytes, the lowest in byte 5
abbrev pub red_bits : List ℕ → ℕ
red_bits p = slice_index p 6 % 8 * 4 + slice_index p 5 % 2 * 2 + slice_index p 4 % 2

abbrev pub short_meanings : List ℕ → List (List ℕ)
short_meanings p = below (field_words short_rows p ++ (share (codes " ") 64 256 (red_bits p) ++ rest_words (drop 7 p)))

abbrev pub one_more : List ℕ → List (List ℕ)
one_more p = if length p == 7 then short_meanings p else block_meanings [] long_rows 10 p

abbrev pub vision : List ℕ
vision = codes ", Dolby Vision"

-- the first line, which has no bytes left
unfoldable pub one_words : List ℕ → List ℕ
one_words p = vision ++ (field_words one_rows p ++ (square_text p ++ field_words near_rows p))

abbrev pub one_meanings : List ℕ → List (List ℕ)
one_meanings p = below (one_words p) ++ one_more p

unfoldable pub two_words : List ℕ → List ℕ
two_words p = vision ++ (field_words two_rows p ++ (peak_text p ++ (floor_text p ++ field_words mode_rows p)))

abbrev pub two_meanings : List ℕ → List (List ℕ)
two_meanings p = below (two_words p) ++ block_meanings [] point_rows 7 p

-- by the version, in bits 7 to 5
abbrev pub dolby_meanings : List ℕ → List (List ℕ)
dolby_meanings p =
    if slice_index p 0 / 32 == 1 then one_meanings p
    else if slice_index p 0 / 32 == 2 then two_meanings p
    else block_meanings vision nought_rows 0 p
