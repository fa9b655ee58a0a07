-- Luminances of HDR by their codes (CTA-861-G, section 7.5.13): 50 * 2 ^ (code / 32) cd/m2.
use Rattle.std.specs.Prelude.{◌≡◌, ℕ, ◌+◌, ◌-◌, ◌*◌, ◌^◌, ◌&&◌, nat_le, ◌/◌, ◌%◌, ◌==◌, if◌then◌else◌, Bool, true, List, [], ◌∷◌, codes, slice_index}
use Rattle.std.specs.List.{list_all, range_with_len}
use Rattle.meaning_words.specs.Notes.{text_between}
use Rattle.meaning_words.specs.Rates.{nearest}
use Rattle.meaning_fields.specs.Figures.{figure_unit, down_to}
use Rattle.meaning_fields.specs.declared.brightness.TheConstants.{LUMINANCES, FINE_LUMINANCES}

-- the whole number of a code
unfoldable pub luminance : ℕ → ℕ
luminance code = slice_index LUMINANCES.now code

-- r is at most 1/2 away from 50 * 2 ^ (code / 32): twice both, to the power of 32
abbrev pub is_nearest : ℕ → ℕ → Bool
is_nearest code r = nat_le ((2 * r - 1) ^ 32) (100 ^ 32 * 2 ^ code) && nat_le (100 ^ 32 * 2 ^ code) ((2 * r + 1) ^ 32)

-- each of some rows, from that of a code on
abbrev pub are_nearest : ℕ → List ℕ → Bool
are_nearest code [] = true
are_nearest code (r ∷ rows) = is_nearest code r && are_nearest (code + 1) rows

abbrev pub LuminancesAreNearest : Type 0
LuminancesAreNearest = are_nearest 0 LUMINANCES.now ≡ true

-- ---- the least luminance, of the code of the greatest one and its own: the greatest times (code / 255) ^ 2 / 100

unfoldable pub fine_luminance : ℕ → ℕ
fine_luminance code = slice_index FINE_LUMINANCES.now code

-- in thousandths of 1 cd/m2 a quotient of two numbers: 1000 * (fine / 262144) * code ^ 2 / 65025 / 100
abbrev pub least_number : ℕ → ℕ → ℕ
least_number greatest code = 2 * (fine_luminance greatest * (code * code))

abbrev pub least_units : ℕ
least_units = 262144 * 13005

-- r is at most 1/2 away from unit * 1000 * 50 * 2 ^ (greatest / 32) * (code / 255) ^ 2 / 100: twice both, times 2601, to the power of 32
abbrev pub is_nearest_least : ℕ → ℕ → ℕ → ℕ → Bool
is_nearest_least unit greatest code r =
    nat_le (((2 * r - 1) * 2601) ^ 32) ((40 * unit * code * code) ^ 32 * 2 ^ greatest) && nat_le ((40 * unit * code * code) ^ 32 * 2 ^ greatest) (((2 * r + 1) * 2601) ^ 32)

-- what is told of it, in the unit that it is told in
abbrev pub is_told_nearest : ℕ → ℕ → ℕ → Bool
is_told_nearest unit greatest code = is_nearest_least unit greatest code (nearest (unit * least_number greatest code) least_units)

abbrev pub LeastLuminancesAreNearest : Type 0
LeastLuminancesAreNearest =
    list_all (λ greatest. list_all (λ code. is_told_nearest (figure_unit (least_number greatest code) least_units) greatest code) (range_with_len 0 256)) (range_with_len 0 256) ≡ true

abbrev pub least_text : ℕ → ℕ → List ℕ
least_text greatest code = down_to (least_number greatest code) least_units

abbrev pub least_code : ℕ → List ℕ
least_code code = text_between (codes ", least luminance by code ") code []

-- 0 tells nothing, and beside no greatest one the code alone is told
abbrev pub least_words : ℕ → ℕ → List ℕ
least_words greatest code = if code == 0 then [] else if greatest == 0 then least_code code else least_text greatest code
