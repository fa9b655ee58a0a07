-- What of the blocks of an EDID is used, and what is left for more: of the base block its unused places (E-EDID Release A, sections 3.8
-- to 3.10), of an extension of CTA-861 the zeros at its end (CTA-861, 7.5).
use Rattle.std.specs.Prelude.{ℕ, ◌+◌, ◌-◌, ◌*◌, ◌/◌, ◌%◌, List, [], ◌∷◌, Option, Some, None, length, flat_map, slice_index}
use Rattle.edid_base.specs.declared.base.Base.{Base}
use Rattle.edid_base.specs.declared.descriptor.Descriptor.{Descriptor}
use Rattle.edid_base.specs.declared.descriptor.Descriptor.TheVariants.{Timing, Name, Text, SerialText, Range, Dummy, Raw}
use Rattle.edid_base.specs.declared.standard.StandardTiming.{StandardTiming}
use Rattle.edid_cta.specs.Block.{block_bytes}
use Rattle.edid_cta.specs.declared.cta.Cta.{Cta}
use Rattle.edid_texts.specs.Lines.{bytes_without_zeros}

-- ---- the base block

-- descriptors with tag 10, which has nothing after it (3.10.3.11)
abbrev pub unused_descriptors : List Descriptor → ℕ
unused_descriptors [] = 0
unused_descriptors (Dummy ∷ ds) = unused_descriptors ds + 1
unused_descriptors (Timing t ∷ ds) = unused_descriptors ds
unused_descriptors (Name t ∷ ds) = unused_descriptors ds
unused_descriptors (Text t ∷ ds) = unused_descriptors ds
unused_descriptors (SerialText t ∷ ds) = unused_descriptors ds
unused_descriptors (Range r ∷ ds) = unused_descriptors ds
unused_descriptors (Raw r ∷ ds) = unused_descriptors ds

-- standard timings that are 01 01 (3.9)
abbrev pub unused_standards : List (Option StandardTiming) → ℕ
unused_standards [] = 0
unused_standards (None ∷ ss) = unused_standards ss + 1
unused_standards (Some s ∷ ss) = unused_standards ss

abbrev pub bit_count : ℕ → ℕ
bit_count b = (b / 128 + b / 64 % 2 + b / 32 % 2 + b / 16 % 2) + (b / 8 % 2 + b / 4 % 2 + b / 2 % 2 + b % 2)

-- of 17 established timings those whose bit is 0: two bytes, and the top bit of a third; its other bits are the maker's (3.8)
abbrev pub unset_established : List ℕ → ℕ
unset_established e = 17 - (bit_count (slice_index e 0) + bit_count (slice_index e 1) + slice_index e 2 / 128)

-- so many bytes of them; established timings take no byte more
abbrev pub base_left : ℕ → ℕ → ℕ
base_left descriptors standards = 18 * descriptors + 2 * standards

-- the others of four descriptors and of eight standard timings, and 40 bytes for all else
abbrev pub base_used : ℕ → ℕ → ℕ
base_used descriptors standards = 40 + 18 * (4 - descriptors) + 2 * (8 - standards)

-- ---- an extension of CTA-861

abbrev pub cta_blocks : Cta → ℕ
cta_blocks c = length (flat_map block_bytes c.blocks.items)

abbrev pub cta_timings : Cta → ℕ
cta_timings c = 18 * length c.timings.items

-- the bytes after the timings, without the zeros at their end
abbrev pub cta_tail : Cta → ℕ
cta_tail c = length (bytes_without_zeros c.tail.items)

-- those zeros
abbrev pub cta_left : Cta → ℕ
cta_left c = length c.tail.items - cta_tail c

-- four bytes at its begin, its checksum, and what it has
abbrev pub cta_used : Cta → ℕ
cta_used c = 5 + cta_blocks c + cta_timings c + cta_tail c
