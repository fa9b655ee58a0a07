-- What is said of a whole EDID (own): a part for each section of the base block, and in an extension of CTA-861 for its first four bytes,
-- each data block, each timing, and the bytes after them.
use Rattle.std.specs.Prelude.{ℕ, Bool, nat_le, ◌+◌, ◌*◌, List, [], ◌∷◌, ◌++◌, Option, None, Some, codes, drop, flat_map, length, take}
use Rattle.std.specs.List.{list_all}
use Rattle.edid_base.specs.Base.{base_bytes}
use Rattle.edid_base.specs.Timing.{timing_bytes}
use Rattle.edid_base.specs.declared.base.Base.{Base}
use Rattle.edid_base.specs.declared.timing.Timing.{Timing as TimingValue}
use Rattle.edid_tables.specs.Cuts.{descriptor_section}
use Rattle.edid_tables.specs.Sections.{section_name, section_parts}
use Rattle.edid_tables.specs.declared.cuts.TheConstants.{BASE}
use Rattle.edid_tables.specs.declared.sections.Section.{Section}
use Rattle.edid_tables.specs.declared.sections.Section.TheVariants.{Checksum, Cta, Timing}
use Rattle.edid_cta.specs.Block.{block_bytes}
use Rattle.edid_cta.specs.Ext.{ext_bytes}
use Rattle.edid_cta.specs.Whole.{bare_bytes, cta_bytes}
use Rattle.edid_cta.specs.declared.block.DataBlock.{DataBlock}
use Rattle.edid_cta.specs.declared.raw.Ext.{Ext}
use Rattle.edid_cta.specs.declared.raw.Ext.TheVariants as exts
use Rattle.edid_fields.specs.Fields.{end_of}
use Rattle.edid_fields.specs.Words as words
use Rattle.conversion_fields.specs.Blocks.{blocks_parts}
use Rattle.conversion_fields.specs.Parts.{PartSaid, parts_text}
use Rattle.conversion_fields.specs.Said.{all_said, plain_said}

-- how many bytes a section has too few, and how many are left over
abbrev pub section_cut : Section → List ℕ → ℕ
section_cut s p = words.cut_of p (end_of (section_parts s) p)

abbrev pub section_left : Section → List ℕ → ℕ
section_left s p = words.left_of p (end_of (section_parts s) p)

-- bytes of a section that begin at a byte
abbrev pub section_part : ℕ → Section → List ℕ → PartSaid
section_part at s p = record {
  at = at;
  bytes = p;
  name = section_name s;
  cut = section_cut s p;
  left = section_left s p;
  fields = all_said at (section_parts s) p;
}

-- a row of a list of sections; one with no section is what its bytes say
abbrev pub section_of : Option Section → List ℕ → Section
section_of None p = descriptor_section p
section_of (Some s) p = s

-- sections one after another, each of as many bytes as its row has
unfoldable pub cut_parts : ℕ → List (ℕ × Option Section) → List ℕ → List PartSaid
cut_parts at [] p = []
cut_parts at (r ∷ rows) p = section_part at (section_of r.1 (take r.0 p)) (take r.0 p) ∷ cut_parts (at + r.0) rows (drop r.0 p)

-- each has as many bytes as a table may be asked about
abbrev pub are_short : List (ℕ × Option Section) → Bool
are_short rows = list_all (λ r. nat_le r.0 31) rows

-- how many bytes they have
unfoldable pub total : List (ℕ × Option Section) → ℕ
total [] = 0
total (r ∷ rows) = r.0 + total rows

-- timings that begin at a byte
unfoldable pub timings_parts : ℕ → List TimingValue → List PartSaid
timings_parts at [] = []
timings_parts at (t ∷ ts) = section_part at Timing (timing_bytes t) ∷ timings_parts (at + 18) ts

-- bytes that have no table, where there are some
abbrev pub plain_part : ℕ → List ℕ → List ℕ → PartSaid
plain_part at name p = record { at = at; bytes = p; name = name; cut = 0; left = 0; fields = plain_said name at p }

abbrev pub plain_parts : ℕ → List ℕ → List ℕ → List PartSaid
plain_parts at name [] = []
plain_parts at name (b ∷ bs) = plain_part at name (b ∷ bs) ∷ []

-- ---- a block of 128 bytes

unfoldable pub sections_of : List ℕ → List PartSaid
sections_of p = cut_parts 0 BASE.now p

abbrev pub base_parts : Base → List PartSaid
base_parts b = sections_of (base_bytes b)

abbrev pub blocks_end : ℕ → List DataBlock → ℕ
blocks_end at blocks = at + length (flat_map block_bytes blocks)

-- data blocks, timings and padding, from byte 4 on
abbrev pub content_parts : List DataBlock → List TimingValue → List ℕ → List PartSaid
content_parts blocks timings tail =
    blocks_parts 4 blocks
    ++ (timings_parts (blocks_end 4 blocks) timings ++ plain_parts (blocks_end 4 blocks + 18 * length timings) (codes "padding") tail)

-- all but the checksum
unfoldable pub ext_front : Ext → List PartSaid
ext_front (exts.Cta c) = section_part 0 Cta (take 4 (cta_bytes c)) ∷ content_parts c.blocks.items c.timings.items c.tail.items
ext_front (exts.Bare b) = section_part 0 Cta (take 4 (bare_bytes b)) ∷ plain_parts 4 (codes "padding") b.tail
ext_front (exts.Raw r) = plain_parts 0 (codes "extension") (take 127 r.bytes)

abbrev pub ext_parts : Ext → List PartSaid
ext_parts x = ext_front x ++ (section_part 127 Checksum (drop 127 (ext_bytes x)) ∷ [])

-- ---- all of them

unfoldable pub exts_text : ℕ → List Ext → List ℕ
exts_text number [] = []
exts_text number (x ∷ xs) = parts_text number (ext_parts x) ++ exts_text (number + 1) xs

abbrev pub edid_text : Base → List Ext → List ℕ
edid_text base extensions = parts_text 0 (base_parts base) ++ exts_text 1 extensions
