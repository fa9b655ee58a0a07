-- A DisplayID extension without the data blocks that list a format which the link of an EDID does not carry (own).
use Rattle.std.specs.Prelude.{ℕ, ◌+◌, Bool, if◌then◌else◌, List, [], ◌∷◌, ◌++◌, length, slice_index, take, drop}
use Rattle.std.specs.List.{list_any}
use Rattle.edid_base.specs.Check.{block_with_checksum}
use Rattle.edid_cta.specs.declared.raw.Ext.{Ext}
use Rattle.edid_displayid.specs.Formats.{data_len, first_formats, is_cut, section_data, section_formats}
use Rattle.rules_link.specs.Offers.{is_typed_beyond}
use Rattle.conversion_fit.specs.Zeros.{zeros_after}

-- ---- data blocks

-- the one in front lists such a format
abbrev pub begins_beyond : List Ext → List ℕ → Bool
begins_beyond xs q = list_any (is_typed_beyond xs) (first_formats q)

abbrev pub left_block : List Ext → List ℕ → List ℕ
left_block xs q = if begins_beyond xs q then [] else take (data_len q) q

-- those that stay, no more of them than a list has elements
unfoldable pub left_data : List Ext → List ℕ → List ℕ → List ℕ
left_data xs [] q = []
left_data xs (c ∷ count) q = if is_cut q then [] else left_block xs q ++ left_data xs count (drop (data_len q) q)

-- ---- the extension

-- a section with these data blocks, and with the version, the use and the count of sections that stood there (DisplayID 1.3, section 2)
abbrev pub section_with : List ℕ → List ℕ → List ℕ
section_with b blocks = block_with_checksum (slice_index b 1 ∷ length blocks ∷ slice_index b 3 ∷ slice_index b 4 ∷ blocks)

-- its tag, the section, and zeros
abbrev pub extension_with : List ℕ → List ℕ → List ℕ
extension_with b blocks = block_with_checksum (0x70 ∷ (section_with b blocks ++ zeros_after (length blocks + 2)))

abbrev pub is_beyond_there : List Ext → List ℕ → Bool
is_beyond_there xs b = list_any (is_typed_beyond xs) (section_formats b)

-- as it was, where the link carries all
abbrev pub fitted_section : List Ext → List ℕ → List ℕ
fitted_section xs b = if is_beyond_there xs b then extension_with b (left_data xs (section_data b) (section_data b)) else b
