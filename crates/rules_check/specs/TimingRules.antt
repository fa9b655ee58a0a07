-- The rules that each detailed timing is to keep (E-EDID Release A, section 3.10.2, unless another is named).
use Rattle.std.specs.Prelude.{◌+◌, ◌*◌, ◌==◌, Bool, ◌&&◌, ◌||◌, not, nat_lt, nat_le, List, [], ◌∷◌}
use Rattle.edid_base.specs.declared.base.Base.{Base}
use Rattle.edid_base.specs.declared.timing.Timing.{Timing}
use Rattle.edid_cta.specs.declared.raw.Ext.{Ext}
use Rattle.rules_link.specs.Offers.{is_of_hdmi, is_timing_beyond}
use Rattle.rules_values.specs.BaseParts.{is_three}
use Rattle.rules_rates.specs.Limits.{timing_pace, is_out_of_range}
use Rattle.rules_check.specs.declared.rule.TimingRule.{TimingRule}
use Rattle.rules_check.specs.declared.rule.TimingRule.TheVariants.{Clock, Fields, HorizontalBackPorch, VerticalBackPorch, SizeThere, SizeFits, WithinLimits, NearLimits, Carried}

abbrev pub timing_rules : List TimingRule
timing_rules = Clock ∷ Fields ∷ HorizontalBackPorch ∷ VerticalBackPorch ∷ SizeThere ∷ SizeFits ∷ WithinLimits ∷ NearLimits ∷ Carried ∷ []

-- a field that no picture can do without is 0; an interlaced one can do without a vertical sync offset
abbrev pub has_zero : Timing → Bool
has_zero t =
    (t.horizontal_active == 0) || (t.horizontal_blanking == 0) || (t.horizontal_sync_offset == 0) || (t.horizontal_sync_width == 0) ||
    (t.vertical_active == 0) || (t.vertical_blanking == 0) || (t.vertical_sync_width == 0) || ((t.vertical_sync_offset == 0) && nat_lt t.flags 128)

-- the base block reports a size in centimetres (section 3.6.2)
abbrev pub has_size : Base → Bool
has_size b = nat_lt 0 b.width && nat_lt 0 b.height

-- more than 9 mm beyond the display's size, or short of it both ways
abbrev pub differs : Base → Timing → Bool
differs b t =
    nat_lt (b.width * 10 + 9) t.width || nat_lt (b.height * 10 + 9) t.height ||
    (nat_lt (t.width + 9) (b.width * 10) && nat_lt (t.height + 9) (b.height * 10))

abbrev pub breaks : TimingRule → Base → List Ext → Timing → Bool
-- at least 10 MHz, in units of 10 kHz (own)
breaks Clock b xs t = nat_lt t.clock 1000
breaks Fields b xs t = has_zero t
-- some of the blanking is left after the sync and both borders
breaks HorizontalBackPorch b xs t = nat_le t.horizontal_blanking (t.horizontal_sync_offset + t.horizontal_sync_width + 2 * t.horizontal_border)
breaks VerticalBackPorch b xs t = nat_le t.vertical_blanking (t.vertical_sync_offset + t.vertical_sync_width + 2 * t.vertical_border)
breaks SizeThere b xs t = has_size b && ((t.width == 0) || (t.height == 0))
breaks SizeFits b xs t = has_size b && (nat_lt 0 t.width || nat_lt 0 t.height) && differs b t
-- a display of 1.3 shows no timing outside its limits (section 3.10.3.3)
breaks WithinLimits b xs t = is_three b.revision && is_out_of_range b (timing_pace t)
-- in 1.4 a timing that is told in full holds whatever the limits are (E-EDID 1.4, section 3.10.3.3)
breaks NearLimits b xs t = not (is_three b.revision) && is_out_of_range b (timing_pace t)
-- it has room on the link (HDMI 1.4b, section 8.3.2; HDMI 2.1, section 10.3.2)
breaks Carried b xs t = is_of_hdmi b && is_timing_beyond xs t
