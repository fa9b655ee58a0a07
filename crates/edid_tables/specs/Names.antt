-- What a data block is called, and what it begins with (CTA-861-H, section 7.4, tables 54 to 56).
use Rattle.std.specs.Prelude.{ℕ, ◌==◌, nat_lt, if◌then◌else◌, List, codes, length, slice_index}
use Rattle.edid_cta.specs.Block.{kind_number}
use Rattle.edid_cta.specs.declared.block.BlockKind.{BlockKind}
use Rattle.edid_cta.specs.declared.block.BlockKind.TheVariants.{Vendor, Extended}
use Rattle.edid_cta.specs.declared.block.DataBlock.{DataBlock}
use Rattle.edid_fields.specs.Fields.{chosen}
use Rattle.edid_fields.specs.Forms.{Row, row_in_constant}
use Rattle.edid_fields.specs.Words.{code_of, text_of}
use Rattle.edid_tables.specs.Layouts.{layout_of}
use Rattle.edid_tables.specs.declared.layouts.Table.{Table}
use Rattle.edid_tables.specs.declared.layouts.Table.TheVariants.{Hdmi, Forum, Dolby}
use Rattle.edid_tables.specs.declared.heads.TheConstants.{TAG, EXTENDED_TAG}
use Rattle.edid_tables.specs.declared.frames.Frame.{Frame}
use Rattle.edid_tables.specs.declared.frames.Frame.TheVariants as frames

unfoldable pub tag : Row
tag = row_in_constant TAG

unfoldable pub extended_tag : Row
extended_tag = row_in_constant EXTENDED_TAG

-- what a row says of a value
abbrev pub word_in : Row → ℕ → List ℕ
word_in r v = text_of (code_of r.2 v)

-- the name by the tags
abbrev pub extended_name : List ℕ → List ℕ
extended_name payload = if nat_lt 0 (length payload) then word_in extended_tag (slice_index payload 0) else word_in tag 7

abbrev pub tag_name : DataBlock → List ℕ
tag_name b = if kind_number b.kind == 7 then extended_name b.payload.items else word_in tag (kind_number b.kind)

-- of a vendor's block that has a table its own
abbrev pub table_name : Table → List ℕ → List ℕ
table_name Hdmi other = codes "HDMI Vendor-Specific Data Block"
table_name Forum other = codes "HDMI Forum Vendor-Specific Data Block"
table_name Dolby other = codes "Dolby Vision Vendor-Specific Video Data Block"
table_name _ other = other

abbrev pub block_name : DataBlock → List ℕ
block_name b = chosen (layout_of b) (tag_name b) (λ l. table_name l.2 (tag_name b))

-- the identifier of a vendor, or an extended tag
abbrev pub front_frame : BlockKind → Frame
front_frame Vendor = frames.Identifier
front_frame Extended = frames.Extended
front_frame _ = frames.Nothing
