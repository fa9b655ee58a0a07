-- The bytes of a data block (CTA-861, 7.5, the data block collection).
use Rattle.std.specs.Prelude.{ℕ, ◌+◌, ◌*◌, List, ◌∷◌, length}
use Rattle.edid_cta.specs.declared.block.DataBlock.{DataBlock}
use Rattle.edid_cta.specs.declared.block.BlockKind.{BlockKind}
use Rattle.edid_cta.specs.declared.block.BlockKind.TheVariants.{Tag0, Audio, Video, Vendor, Speakers, Tag5, Tag6, Extended}

abbrev pub kind_number : BlockKind → ℕ
kind_number Tag0 = 0
kind_number Audio = 1
kind_number Video = 2
kind_number Vendor = 3
kind_number Speakers = 4
kind_number Tag5 = 5
kind_number Tag6 = 6
kind_number Extended = 7

-- a tag of three bits, a length of five, and so many bytes
abbrev pub block_bytes : DataBlock → List ℕ
block_bytes b = (kind_number b.kind * 32 + length b.payload.items) ∷ b.payload.items
