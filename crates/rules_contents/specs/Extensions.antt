-- What the rules ask of the extensions that are kept as they are (E-EDID Release A, section 2.2.1), and of the blocks of an
-- extension taken together (CTA-861-G, section 7.5).
use Rattle.std.specs.Prelude.{ℕ, ◌/◌, ◌%◌, ◌==◌, Bool, false, ◌&&◌, ◌||◌, not, nat_lt, List, [], ◌∷◌, ◌+◌, length, slice_index, drop, take, sum, count_by}
use Rattle.std.specs.List.{list_any}
use Rattle.edid_base.specs.declared.base.Base.{Base}
use Rattle.edid_cta.specs.Hdmi.{blocks_of}
use Rattle.edid_cta.specs.declared.block.DataBlock.{DataBlock}
use Rattle.edid_cta.specs.declared.raw.Ext.{Ext}
use Rattle.edid_cta.specs.declared.raw.Ext.TheVariants.{Cta, Raw}
use Rattle.rules_values.specs.ExtParts.{some_block}
use Rattle.rules_contents.specs.Contents.{has_extended_tag, is_of_sort}
use Rattle.rules_contents.specs.declared.contents.Sort.{Sort}
use Rattle.rules_contents.specs.declared.contents.Sort.TheVariants.{VideoCapability, Colorimetry, HdrStatic, Map, Speakers, Forum}

-- ---- extensions that are kept as they are

-- a CTA block of revision 3 that has not the form of one: its data blocks do not end where its third byte says, or its timings
-- overrun (CTA-861-D, section 7.5)
abbrev pub overruns : Ext → Bool
overruns (Raw r) = (slice_index r.bytes 0 == 2) && (slice_index r.bytes 1 == 3)
overruns _ = false

-- a CTA block of another revision, of which no data block is read
abbrev pub has_other_revision : Ext → Bool
has_other_revision (Raw r) = (slice_index r.bytes 0 == 2) && not (slice_index r.bytes 1 == 3)
has_other_revision _ = false

-- CTA-861, video timings, display information, localized strings, digital packet video link, DisplayID, block map, the maker's own
abbrev pub is_known_tag : ℕ → Bool
is_known_tag tag =
    (tag == 0x02) || (tag == 0x10) || (tag == 0x40) || (tag == 0x50) || (tag == 0x60) || (tag == 0x70) || (tag == 0xf0) || (tag == 0xff)

abbrev pub has_unknown_tag : Ext → Bool
has_unknown_tag (Raw r) = not (is_known_tag (slice_index r.bytes 0))
has_unknown_tag _ = false

-- The section of a DisplayID extension stands after the extension's tag: its byte 1 counts its bytes but for the four of its header and
-- the last one, which makes the sum of all 0 modulo 256 (DisplayID 1.3, section 3; DisplayID 2.1, section 3).
abbrev pub section_bytes : List ℕ → List ℕ
section_bytes bytes = take (slice_index bytes 2 + 5) (drop 1 bytes)

abbrev pub has_wrong_section : Ext → Bool
has_wrong_section (Raw r) = (slice_index r.bytes 0 == 0x70) && not (sum (section_bytes r.bytes) % 256 == 0)
has_wrong_section _ = false

-- ---- blocks that stand once

-- the sorts of blocks of which an extension has one at most (CTA-861-G, sections 7.5.3, 7.5.5, 7.5.6, 7.5.11 and 7.5.13; HDMI 2.1,
-- section 10.3.2)
abbrev pub sorts : List Sort
sorts = VideoCapability ∷ Colorimetry ∷ HdrStatic ∷ Map ∷ Speakers ∷ Forum ∷ []

abbrev pub has_two : List DataBlock → Sort → Bool
has_two blocks sort = nat_lt 1 (count_by (is_of_sort sort) blocks)

abbrev pub repeats_block : Ext → Bool
repeats_block x = list_any (has_two (blocks_of x)) sorts

-- ---- ranges of colour values

-- bit 7 of the byte of a video capability block: the range of YCbCr values can be chosen (CTA-861-G, section 7.5.6)
abbrev pub fixes_ycc_range : DataBlock → Bool
fixes_ycc_range b = has_extended_tag 0x00 b && nat_lt 1 (length b.payload.items) && nat_lt (slice_index b.payload.items 1) 128

-- bits 5 and 4 of the flags: YCbCr 4:4:4 and 4:2:2 (CTA-861-D, section 7.5)
abbrev pub has_fixed_ycc : Ext → Bool
has_fixed_ycc (Cta c) = nat_lt 0 (c.flags / 16 % 4) && list_any fixes_ycc_range c.blocks.items
has_fixed_ycc _ = false

-- ---- the HDMI Forum's override of the count of extensions (HF-EEODB: HDMI 2.1, section 10.3.7)

abbrev pub is_override : DataBlock → Bool
is_override b = has_extended_tag 0x78 b

-- it is the first data block of the first extension, and there is no other
abbrev pub has_misplaced_override : List Ext → Bool
has_misplaced_override [] = false
has_misplaced_override (x ∷ xs) = list_any is_override (drop 1 (blocks_of x)) || some_block is_override xs

-- the count in a first block that is one is below that of the base block, or 0; the byte that is missing counts as 0
abbrev pub begins_low : ℕ → List DataBlock → Bool
begins_low count [] = false
begins_low count (b ∷ bs) = is_override b && (nat_lt (slice_index b.payload.items 1) count || (slice_index b.payload.items 1 == 0))

abbrev pub has_low_override : Base → List Ext → Bool
has_low_override b [] = false
has_low_override b (x ∷ xs) = begins_low b.extensions (blocks_of x)
