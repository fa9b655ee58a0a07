-- How the bytes of a timing say it, by its type: I to VI (DisplayID 1.3, sections 4.4.1 to 4.4.6), VII to X (DisplayID 2.1, section 4.3). A byte past the end is 0.
use Rattle.std.specs.Prelude.{ℕ, ◌+◌, ◌*◌, ◌/◌, ◌%◌, ◌==◌, ◌||◌, nat_lt, nat_le, if◌then◌else◌, List, [], ◌∷◌, slice_index, Option, Some, None}
use Rattle.edid_displayid.specs.Formulas.{by_version, dmt_format, reduced_version_2}
use Rattle.edid_displayid.specs.declared.layouts.Layout.{Layout}
use Rattle.edid_displayid.specs.declared.layouts.Layout.TheVariants.{TypeI, TypeII, TypeIII, TypeV, TypeVI, TypeVII, TypeIX, Dmt, Vic}
use Rattle.edid_displayid.specs.declared.timing.TypedFormat.{TypedFormat}
use Rattle.edid_displayid.specs.declared.timing.TypedFormat.TheVariants.{Timing, Code}

-- two bytes, the lowest first, and 1
abbrev pub two_at : List ℕ → ℕ → ℕ
two_at q place = slice_index q place + slice_index q (place + 1) * 256 + 1

-- three bytes and 1, in units of so many kHz
abbrev pub clock_of : ℕ → List ℕ → ℕ
clock_of unit q = (slice_index q 0 + slice_index q 1 * 256 + slice_index q 2 * 65536 + 1) * unit

-- ---- types I and VII: pixels and lines shown, and those of blanking; bit 4 of byte 4: a picture is two fields

abbrev pub type_i : ℕ → List ℕ → TypedFormat
type_i unit q = Timing (record {
  clock = clock_of unit q;
  width = two_at q 4;
  pixels = two_at q 4 + two_at q 6;
  lines = two_at q 12 + two_at q 14;
  is_interlaced = slice_index q 3 / 16 % 2 == 1;
})

-- ---- type II: pixels in cells of eight, nine bits of them shown and seven of blanking; twelve bits of lines

abbrev pub width_in_cells : List ℕ → ℕ
width_in_cells q = (slice_index q 4 + slice_index q 5 % 2 * 256 + 1) * 8

abbrev pub type_ii : List ℕ → TypedFormat
type_ii q = Timing (record {
  clock = clock_of 10 q;
  width = width_in_cells q;
  pixels = width_in_cells q + (slice_index q 5 / 2 + 1) * 8;
  lines = slice_index q 7 + slice_index q 8 % 16 * 256 + 1 + slice_index q 9 + 1;
  is_interlaced = slice_index q 3 / 16 % 2 == 1;
})

-- ---- type III: the code of the aspect, the formula, the width in cells, the rate, and whether a picture is two fields

-- the lines of so wide a picture, rounded down: 1:1, 5:4, 4:3, 15:9, 16:9, 16:10, 64:27 and 256:135; 0 for any other
abbrev pub aspect_lines : ℕ → ℕ → ℕ
aspect_lines aspect width =
    if aspect == 0 then width
    else if aspect == 1 then width * 4 / 5
    else if aspect == 2 then width * 3 / 4
    else if aspect == 3 then width * 9 / 15
    else if aspect == 4 then width * 9 / 16
    else if aspect == 5 then width * 10 / 16
    else if aspect == 6 then width * 27 / 64
    else if aspect == 7 then width * 135 / 256
    else 0

-- a picture of two fields is not known, nor another formula than CVT of the blanking of a tube and the reduced one (own)
abbrev pub type_iii : List ℕ → Option TypedFormat
type_iii q =
    if nat_lt 1 (slice_index q 0 / 16 % 8) || nat_le 128 (slice_index q 2) then None
    else by_version (slice_index q 0 / 16 % 8) ((slice_index q 1 + 1) * 8) (aspect_lines (slice_index q 0 % 16) ((slice_index q 1 + 1) * 8)) (slice_index q 2 + 1)

-- ---- type V: CVT with reduced blanking of version 2, where the low two bits say no other formula

abbrev pub type_v : List ℕ → Option TypedFormat
type_v q = if slice_index q 0 % 4 == 0 then Some (reduced_version_2 (two_at q 2) (two_at q 4) (slice_index q 6 + 1)) else None

-- ---- type VI: the clock in kHz, of 22 bits; 14 bits of pixels and lines shown; of blanking 12 bits and 8; bit 7 of byte 14: two fields

abbrev pub type_vi : List ℕ → TypedFormat
type_vi q = Timing (record {
  clock = slice_index q 0 + slice_index q 1 * 256 + slice_index q 2 % 64 * 65536 + 1;
  width = slice_index q 3 + slice_index q 4 % 64 * 256 + 1;
  pixels = slice_index q 3 + slice_index q 4 % 64 * 256 + 1 + slice_index q 7 + slice_index q 9 % 16 * 256 + 1;
  lines = slice_index q 5 + slice_index q 6 % 64 * 256 + 1 + slice_index q 11 + 1;
  is_interlaced = slice_index q 13 / 128 % 2 == 1;
})

-- ---- types IX and X: the version of CVT by the low three bits, pixels, lines, and the rate, of which type X may have a seventh byte

abbrev pub type_ix : List ℕ → Option TypedFormat
type_ix q = by_version (slice_index q 0 % 8) (two_at q 1) (two_at q 3) (slice_index q 5 + slice_index q 6 % 4 * 256 + 1)

-- ---- all of them

abbrev pub vic_format : List ℕ → Option TypedFormat
vic_format [] = None
vic_format (code ∷ q) = Some (Code code)

-- the least bytes of a timing
abbrev pub layout_len : Layout → ℕ
layout_len TypeI = 20
layout_len TypeII = 11
layout_len TypeIII = 3
layout_len TypeV = 7
layout_len TypeVI = 14
layout_len TypeVII = 20
layout_len TypeIX = 6
layout_len Dmt = 1
layout_len Vic = 1

unfoldable pub format_of : Layout → List ℕ → Option TypedFormat
format_of TypeI q = Some (type_i 10 q)
format_of TypeII q = Some (type_ii q)
format_of TypeIII q = type_iii q
format_of TypeV q = type_v q
format_of TypeVI q = Some (type_vi q)
format_of TypeVII q = Some (type_i 1 q)
format_of TypeIX q = type_ix q
format_of Dmt q = dmt_format (slice_index q 0)
format_of Vic q = vic_format q
