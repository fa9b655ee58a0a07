-- What is said of a data block (own).
use Rattle.std.specs.Prelude.{ℕ, ◌+◌, ◌*◌, nat_lt, if◌then◌else◌, List, [], ◌∷◌, ◌++◌, length, drop}
use Rattle.edid_cta.specs.Block.{block_bytes, kind_number}
use Rattle.edid_cta.specs.declared.block.DataBlock.{DataBlock}
use Rattle.edid_fields.specs.Fields.{chosen, end_of}
use Rattle.edid_fields.specs.Forms.{Part}
use Rattle.edid_fields.specs.Words as words
use Rattle.edid_tables.specs.Layouts.{layout_of}
use Rattle.edid_tables.specs.Tables.{parts_of}
use Rattle.edid_tables.specs.Names.{block_name, front_frame}
use Rattle.edid_tables.specs.Frames.{frame_parts}
use Rattle.edid_tables.specs.declared.frames.Frame.TheVariants.{Head, Payload}
use Rattle.conversion_fields.specs.Parts.{PartSaid}
use Rattle.conversion_fields.specs.Said.{Said, all_said, end_in, front_said}

-- ---- a data block: the byte of tag and length, what says of which kind it is, and its body

abbrev pub head_byte : DataBlock → ℕ
head_byte b = kind_number b.kind * 32 + length b.payload.items

abbrev pub front_parts : DataBlock → List Part
front_parts b = frame_parts (front_frame b.kind)

abbrev pub front_end : DataBlock → ℕ
front_end b = end_in (front_parts b) b.payload.items

abbrev pub body_of : DataBlock → List ℕ
body_of b = drop (front_end b) b.payload.items

abbrev pub body_parts : DataBlock → List Part
body_parts b = chosen (layout_of b) (frame_parts Payload) (λ l. parts_of l.2)

abbrev pub block_said : ℕ → DataBlock → List Said
block_said at b =
    all_said at (frame_parts Head) (head_byte b ∷ [])
    ++ (front_said (at + 1) (front_parts b) b.payload.items ++ all_said (at + 1 + front_end b) (body_parts b) (body_of b))

-- how many bytes it has too few, and how many are left over; where its front is cut it has no body
abbrev pub first_cut : ℕ → ℕ → ℕ
first_cut front body = if nat_lt 0 front then front else body

abbrev pub cut_of : DataBlock → ℕ
cut_of b = first_cut (words.cut_of b.payload.items (end_of (front_parts b) b.payload.items)) (words.cut_of (body_of b) (end_of (body_parts b) (body_of b)))

abbrev pub left_of : DataBlock → ℕ
left_of b = words.left_of (body_of b) (end_of (body_parts b) (body_of b))

abbrev pub block_part : ℕ → DataBlock → PartSaid
block_part at b = record { at = at; bytes = block_bytes b; name = block_name b; cut = cut_of b; left = left_of b; fields = block_said at b }

-- data blocks that begin at a byte
unfoldable pub blocks_parts : ℕ → List DataBlock → List PartSaid
blocks_parts at [] = []
blocks_parts at (b ∷ bs) = block_part at b ∷ blocks_parts (at + (1 + length b.payload.items)) bs
