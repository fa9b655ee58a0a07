-- What the rules ask of the base block (E-EDID Release A, section 3, unless another is named).
use Rattle.std.specs.Prelude.{ℕ, ◌/◌, ◌%◌, ◌==◌, Bool, true, false, ◌&&◌, ◌||◌, nat_le, List, slice_get, slice_index, Option, Some, None}
use Rattle.std.specs.List.{list_any}
use Rattle.std.specs.Option.{option_map_or}
use Rattle.edid_base.specs.Bytes.{are_zeros}
use Rattle.edid_base.specs.Descriptor.{descriptor_bytes}
use Rattle.edid_base.specs.declared.base.Base.{Base}
use Rattle.edid_base.specs.declared.base.Revision.{Revision}
use Rattle.edid_base.specs.declared.base.Revision.TheVariants.{Three, Four}
use Rattle.edid_base.specs.declared.chroma.Chroma.{Chroma}
use Rattle.edid_base.specs.declared.descriptor.Descriptor.{Descriptor}
use Rattle.edid_base.specs.declared.descriptor.Descriptor.TheVariants.{Timing, Range}
use Rattle.edid_base.specs.declared.standard.StandardTiming.{StandardTiming}

abbrev pub is_three : Revision → Bool
is_three Three = true
is_three Four = false

-- a display descriptor with this tag, whatever else stands in it (section 3.10.3)
abbrev pub is_tagged : ℕ → List ℕ → Bool
is_tagged tag bytes = (slice_index bytes 0 == 0) && (slice_index bytes 1 == 0) && (slice_index bytes 3 == tag)

abbrev pub has_tag : ℕ → Descriptor → Bool
has_tag tag d = is_tagged tag (descriptor_bytes d)

abbrev pub some_tagged : ℕ → Base → Bool
some_tagged tag b = list_any (λ d. has_tag tag d) b.descriptors

-- 18 zeros
abbrev pub is_empty : Descriptor → Bool
is_empty d = are_zeros (descriptor_bytes d)

abbrev pub is_timed : Descriptor → Bool
is_timed (Timing t) = true
is_timed _ = false

-- the first of the four descriptors is a detailed timing
abbrev pub begins_with_timing : Base → Bool
begins_with_timing b = option_map_or is_timed (slice_get b.descriptors 0) false

-- bit 0 of the features: in 1.4 the display takes any frequency within its limits, in 1.3 it takes the timings of GTF (section 3.6.4)
abbrev pub is_continuous : Base → Bool
is_continuous b = b.features % 2 == 1

-- bit 1 of the features: the first detailed timing is the preferred one (section 3.6.4)
abbrev pub prefers_first : Base → Bool
prefers_first b = b.features / 2 % 2 == 1

-- bit 2 of the features: sRGB is the display's own colour space (section 3.6.4)
abbrev pub claims_srgb : Base → Bool
claims_srgb b = b.features / 4 % 2 == 1

-- the chromaticities of sRGB (appendix A), in parts of 1024
abbrev pub is_srgb : Chroma → Bool
is_srgb c =
    (c.red.x == 655) && (c.red.y == 338) && (c.green.x == 307) && (c.green.y == 614) &&
    (c.blue.x == 154) && (c.blue.y == 61) && (c.white.x == 320) && (c.white.y == 337)

-- an unused standard timing is 01 01; another first byte of 0 or 1 stands for none (section 3.9)
abbrev pub is_ill_unused : Option StandardTiming → Bool
is_ill_unused None = false
is_ill_unused (Some s) = nat_le s.width 256

-- bit 5 of the first byte: 640x480 at 60 Hz (section 3.8)
abbrev pub has_established_vga : Base → Bool
has_established_vga b = slice_index b.established 0 / 32 % 2 == 1

-- byte 10 of range limits in 1.4: timings follow GTF (0), its secondary curve (2) or CVT (4), and not the limits alone (1) (E-EDID 1.4, section 3.10.3.3)
abbrev pub is_formula : ℕ → Bool
is_formula form = (form == 0) || (form == 2) || (form == 4)

abbrev pub names_formula : Descriptor → Bool
names_formula (Range l) = is_formula (slice_index l.bytes 6)
names_formula _ = false
