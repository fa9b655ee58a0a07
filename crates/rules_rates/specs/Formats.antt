-- The formats of an EDID beside its detailed timings: video codes (CTA-861-G, section 7.5.1), established timings (E-EDID Release A,
-- section 3.8), standard timings (section 3.9) and formats of DisplayID; and whether one is outside the range limits (section 3.10.3.3).
use Rattle.std.specs.Prelude.{ℕ, ◌+◌, ◌*◌, ◌/◌, ◌%◌, ◌==◌, Bool, false, ◌&&◌, ◌||◌, not, nat_lt, nat_le, if◌then◌else◌, List, [], ◌∷◌, slice_index, Option, Some, None}
use Rattle.std.specs.List.{list_any}
use Rattle.edid_base.specs.declared.base.Base.{Base}
use Rattle.edid_base.specs.declared.base.Revision.{Revision}
use Rattle.edid_base.specs.declared.descriptor.Descriptor.{Descriptor}
use Rattle.edid_base.specs.declared.descriptor.Descriptor.TheVariants.{Range}
use Rattle.edid_base.specs.declared.standard.StandardTiming.{StandardTiming}
use Rattle.edid_cta.specs.declared.raw.Ext.{Ext}
use Rattle.edid_displayid.specs.Formats.{typed_formats}
use Rattle.edid_displayid.specs.declared.timing.TypedFormat.{TypedFormat}
use Rattle.edid_displayid.specs.declared.timing.TypedFormat.TheVariants.{Timing, Code}
use Rattle.edid_displayid.specs.declared.timing.TypedTiming.{TypedTiming}
use Rattle.rules_values.specs.VideoCodes.{video_codes}
use Rattle.rules_rates.specs.Limits.{field_span, line_span, limits_rates, is_over, is_outside, is_out_of_range}
use Rattle.rules_rates.specs.Paces.{pace_of}
use Rattle.rules_rates.specs.declared.pace.Pace.{Pace}
use Rattle.rules_rates.specs.declared.span.RateSpan.{RateSpan}
use Rattle.rules_rates.specs.declared.formats.BitPace.{BitPace}

-- ---- video codes

abbrev pub is_known_outside : Base → Option Pace → Bool
is_known_outside b None = false
is_known_outside b (Some p) = is_out_of_range b p

abbrev pub is_code_outside : Base → ℕ → Bool
is_code_outside b code = is_known_outside b (pace_of code)

-- ---- established timings

abbrev pub row : ℕ → ℕ → ℕ → ℕ → BitPace
row bit clock pixels half_lines = record { bit = bit; pace = record { clock = clock; pixels = pixels; half_lines = half_lines } }

-- the bit of the three bytes, the highest first; clock in kHz, pixels of a line, half lines of a field (VESA DMT, and the makers' own)
abbrev pub established_paces : List BitPace
established_paces =
    row 8388608 28320 900 898 ∷
    row 4194304 35500 900 898 ∷
    row 2097152 25175 800 1050 ∷
    row 1048576 30240 864 1050 ∷
    row 524288 31500 832 1040 ∷
    row 262144 31500 840 1000 ∷
    row 131072 36000 1024 1250 ∷
    row 65536 40000 1056 1256 ∷
    row 32768 50000 1040 1332 ∷
    row 16384 49500 1056 1250 ∷
    row 8192 57284 1152 1334 ∷
    row 4096 44900 1264 817 ∷
    row 2048 65000 1344 1612 ∷
    row 1024 75000 1328 1612 ∷
    row 512 78750 1312 1600 ∷
    row 256 135000 1688 2132 ∷
    row 128 100000 1456 1830 ∷ []

abbrev pub established_bits : List ℕ → ℕ
established_bits bytes = slice_index bytes 0 * 65536 + slice_index bytes 1 * 256 + slice_index bytes 2

-- its bit is set, and its pace outside the limits
abbrev pub is_established_outside : Base → ℕ → BitPace → Bool
is_established_outside b bits r = nat_lt 0 r.bit && (bits / r.bit % 2 == 1) && is_out_of_range b r.pace

unfoldable pub some_bit_outside : Base → ℕ → Bool
some_bit_outside b bits = list_any (is_established_outside b bits) established_paces

abbrev pub some_established_outside : Base → Bool
some_established_outside b = some_bit_outside b (established_bits b.established)

-- ---- standard timings

-- the lines of so wide a picture, rounded down: 16:10, in 1.3 as in 1.4; 4:3; 5:4; 16:9
abbrev pub standard_height : StandardTiming → ℕ
standard_height s =
    if s.aspect == 0 then s.width * 10 / 16
    else if s.aspect == 1 then s.width * 3 / 4
    else if s.aspect == 2 then s.width * 4 / 5
    else s.width * 9 / 16

-- the lines of its pictures in a second
abbrev pub picture_lines : StandardTiming → ℕ
picture_lines s = standard_height s * s.rate

-- they alone are more than the greatest line rate, in thousands
abbrev pub has_too_many_lines : RateSpan → StandardTiming → Bool
has_too_many_lines span s = limits_rates span && is_over span (picture_lines s) 1000

-- its rate is outside, or its pictures have too many lines
abbrev pub excludes_standard : Revision → StandardTiming → Descriptor → Bool
excludes_standard r s (Range l) = is_outside (field_span r l.bytes) s.rate 1 || has_too_many_lines (line_span r l.bytes) s
excludes_standard r s _ = false

-- one of at most 256 pixels stands for none
abbrev pub is_standard_outside : Base → Option StandardTiming → Bool
is_standard_outside b None = false
is_standard_outside b (Some s) = nat_lt 256 s.width && list_any (excludes_standard b.revision s) b.descriptors

-- ---- formats of DisplayID

-- A picture of two fields has no pace, since its lines are not known to be those of a field or of both; nor has one whose clock has 2 ^ 32
-- kHz, whose line has more than 65,535 pixels, or whose picture more than 32,767 lines (own).
abbrev pub is_paced : TypedTiming → Bool
is_paced t = not t.is_interlaced && nat_le t.clock 4294967295 && nat_le t.pixels 65535 && nat_le t.lines 32767

abbrev pub timing_pace_of : TypedTiming → Option Pace
timing_pace_of t = if is_paced t then Some (record { clock = t.clock; pixels = t.pixels; half_lines = 2 * t.lines }) else None

abbrev pub typed_pace : TypedFormat → Option Pace
typed_pace (Timing t) = timing_pace_of t
typed_pace (Code code) = pace_of code

abbrev pub is_typed_outside : Base → TypedFormat → Bool
is_typed_outside b f = is_known_outside b (typed_pace f)

-- ---- all of them

abbrev pub has_format_outside : Base → List Ext → Bool
has_format_outside b xs =
    list_any (is_code_outside b) (video_codes xs) ||
    (some_established_outside b || (list_any (is_standard_outside b) b.standard || list_any (is_typed_outside b) (typed_formats xs)))
