-- How fast a format is (E-EDID Release A, section 3.10.2), and the limits that a display has for that (section 3.10.3.3).
use Rattle.std.specs.Prelude.{ℕ, ◌+◌, ◌*◌, ◌/◌, ◌%◌, ◌==◌, Bool, false, ◌&&◌, ◌||◌, not, nat_lt, nat_le, if◌then◌else◌, List, slice_index}
use Rattle.std.specs.List.{list_any}
use Rattle.edid_base.specs.declared.base.Base.{Base}
use Rattle.edid_base.specs.declared.base.Revision.{Revision}
use Rattle.edid_base.specs.declared.base.Revision.TheVariants.{Three, Four}
use Rattle.edid_base.specs.declared.descriptor.Descriptor.{Descriptor}
use Rattle.edid_base.specs.declared.descriptor.Descriptor.TheVariants.{Range}
use Rattle.edid_base.specs.declared.timing.Timing.{Timing}
use Rattle.rules_rates.specs.declared.pace.Pace.{Pace}
use Rattle.rules_rates.specs.declared.span.RateSpan.{RateSpan}

-- ---- how fast

-- the half lines of a field: bit 7 of the flags says that a picture is two fields, each half a line longer
abbrev pub half_lines : Timing → ℕ
half_lines t = if nat_lt t.flags 128 then 2 * (t.vertical_active + t.vertical_blanking) else 2 * (t.vertical_active + t.vertical_blanking) + 1

-- the clock of a timing is in units of 10 kHz, and blanking counts
abbrev pub timing_pace : Timing → Pace
timing_pace t = record { clock = t.clock * 10; pixels = t.horizontal_active + t.horizontal_blanking; half_lines = half_lines t }

-- ---- spans

-- the greatest is below the least
abbrev pub is_reversed : RateSpan → Bool
is_reversed span = nat_lt span.greatest span.least

-- A greatest of 0 limits nothing, nor do limits that are reversed.
abbrev pub limits_rates : RateSpan → Bool
limits_rates span = nat_lt 0 span.greatest && not (is_reversed span)

-- a rate of `count / per` is one unit and more above the greatest, where there is one
abbrev pub is_over : RateSpan → ℕ → ℕ → Bool
is_over span count per = not span.is_open && nat_le ((span.greatest + 1) * per) count

-- It is one unit and more below the least or above the greatest. It is no rate where `per` is 0.
abbrev pub is_outside : RateSpan → ℕ → ℕ → Bool
is_outside span count per = limits_rates span && nat_lt 0 per && (nat_le (count + per) (span.least * per) || is_over span count per)

-- ---- limits

-- In 1.3 a rate is a byte, and 255 the greatest that one says: a display that shows more has no other, so it limits nothing, as of the
-- clock (own; E-EDID Release A, section 3.10.3.3). In 1.4 two bits of byte 4 add 255 to the greatest rate, or to both (E-EDID 1.4, section
-- 3.10.3.3).
abbrev pub raised_span : Revision → ℕ → ℕ → ℕ → RateSpan
raised_span Three bits least greatest = record { least = least; greatest = greatest; is_open = greatest == 255 }
raised_span Four bits least greatest =
    record { least = if bits == 3 then least + 255 else least; greatest = if nat_le 2 bits then greatest + 255 else greatest; is_open = false }

-- in fields a second
abbrev pub field_span : Revision → List ℕ → RateSpan
field_span r l = raised_span r (slice_index l 0 % 4) (slice_index l 1) (slice_index l 2)

-- in thousands of lines a second
abbrev pub line_span : Revision → List ℕ → RateSpan
line_span r l = raised_span r (slice_index l 0 / 4 % 4) (slice_index l 3) (slice_index l 4)

abbrev pub has_reversed : Revision → Descriptor → Bool
has_reversed r (Range l) = is_reversed (field_span r l.bytes) || is_reversed (line_span r l.bytes)
has_reversed r _ = false

-- some limits are reversed
abbrev pub has_reversed_limits : Base → Bool
has_reversed_limits b = list_any (has_reversed b.revision) b.descriptors

-- ---- both

-- a clock of one unit and more above the greatest, in units of 10 MHz, where there is one: 0 and 255 limit nothing
abbrev pub is_clock_above : ℕ → Pace → Bool
is_clock_above most p = nat_lt 0 most && nat_lt most 255 && nat_le ((most + 1) * 10000) p.clock

-- the clock counts thousands of pixels a second
abbrev pub is_field_rate_outside : Revision → List ℕ → Pace → Bool
is_field_rate_outside r l p = is_outside (field_span r l) (p.clock * 2000) (p.pixels * p.half_lines)

abbrev pub is_line_rate_outside : Revision → List ℕ → Pace → Bool
is_line_rate_outside r l p = is_outside (line_span r l) p.clock p.pixels

abbrev pub excludes : Revision → Pace → Descriptor → Bool
excludes r p (Range l) = is_field_rate_outside r l.bytes p || is_line_rate_outside r l.bytes p || is_clock_above (slice_index l.bytes 5) p
excludes r p _ = false

-- beyond the range limits of the base block by a unit or more: 1 Hz for fields, 1 kHz for lines, 10 MHz for the clock
abbrev pub is_out_of_range : Base → Pace → Bool
is_out_of_range b p = list_any (excludes b.revision p) b.descriptors
