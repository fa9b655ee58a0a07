-- What the rules ask of extensions (CTA-861-D, section 7.5, unless another is named).
use Rattle.std.specs.Prelude.{ℕ, zero, suc, ◌/◌, ◌%◌, ◌==◌, Bool, true, false, ◌&&◌, not, nat_lt, if◌then◌else◌, List, [], ◌∷◌, ◌++◌, length, take, drop, slice_get, slice_index, flat_map, sum_by, count_by}
use Rattle.std.specs.List.{list_any}
use Rattle.std.specs.Option.{option_map_or}
use Rattle.edid_base.specs.Bytes.{are_zeros}
use Rattle.edid_base.specs.declared.base.Base.{Base}
use Rattle.edid_base.specs.declared.descriptor.Descriptor.{Descriptor}
use Rattle.edid_base.specs.declared.descriptor.Descriptor.TheVariants.{Timing as OfTiming}
use Rattle.edid_base.specs.declared.timing.Timing.{Timing}
use Rattle.edid_cta.specs.Hdmi.{is_hdmi, blocks_of}
use Rattle.edid_cta.specs.declared.block.DataBlock.{DataBlock}
use Rattle.edid_cta.specs.declared.raw.Ext.{Ext}
use Rattle.edid_cta.specs.declared.raw.Ext.TheVariants.{Cta, Bare, Raw}
use Rattle.rules_values.specs.BlockParts.{is_sound, begins_with_forum}

abbrev pub is_cta : Ext → Bool
is_cta (Cta c) = true
is_cta (Bare b) = true
is_cta (Raw r) = false

-- tag F0 (E-EDID Release A, section 4.1)
abbrev pub is_block_map : Ext → Bool
is_block_map (Raw r) = slice_index r.bytes 0 == 0xf0
is_block_map _ = false

abbrev pub begins_with_map : List Ext → Bool
begins_with_map xs = option_map_or is_block_map (slice_get xs 0) false

-- bit 7 of the flags: formats of computers are shown whole
abbrev pub overscans : Ext → Bool
overscans (Cta c) = nat_lt c.flags 128
overscans _ = false

-- a dummy descriptor: tag 10 and zeros (E-EDID Release A, section 3.10.3)
abbrev pub is_dummy : List ℕ → Bool
is_dummy bytes = are_zeros (take 3 bytes) && (slice_index bytes 3 == 0x10) && are_zeros (drop 4 bytes)

-- what follows whole dummy descriptors in front, of so many at most
abbrev pub after_dummies : ℕ → List ℕ → List ℕ
after_dummies zero bytes = bytes
after_dummies (suc count) bytes =
    if nat_lt (length bytes) 18 then bytes
    else if is_dummy (take 18 bytes) then after_dummies count (drop 18 bytes)
    else bytes

-- six descriptors have room in a block
abbrev pub is_padding : List ℕ → Bool
is_padding bytes = are_zeros (after_dummies 6 bytes)

abbrev pub has_ill_padding : Ext → Bool
has_ill_padding (Cta c) = not (is_padding c.tail.items)
has_ill_padding _ = false

-- the low four bits of the flags: how many of the detailed timings are native
abbrev pub native_count : Ext → ℕ
native_count (Cta c) = c.flags % 16
native_count _ = 0

-- sound where bit 6 of the flags says that there is none
abbrev pub hides_sound : Ext → Bool
hides_sound (Cta c) = (c.flags / 64 % 2 == 0) && list_any is_sound c.blocks.items
hides_sound _ = false

-- some data block passes a test
abbrev pub some_block : (DataBlock → Bool) → List Ext → Bool
some_block test xs = list_any (λ x. list_any test (blocks_of x)) xs

abbrev pub hdmi_count : List Ext → ℕ
hdmi_count xs = sum_by (λ x. count_by is_hdmi (blocks_of x)) xs

abbrev pub has_forum_first : Ext → Bool
has_forum_first x = begins_with_forum (blocks_of x)

-- ---- timings

abbrev pub descriptor_timings : Descriptor → List Timing
descriptor_timings (OfTiming t) = t ∷ []
descriptor_timings _ = []

abbrev pub ext_timings : Ext → List Timing
ext_timings (Cta c) = c.timings.items
ext_timings _ = []

-- the detailed timings in the order of the bytes
abbrev pub timings_of : Base → List Ext → List Timing
timings_of b xs = flat_map descriptor_timings b.descriptors ++ flat_map ext_timings xs
