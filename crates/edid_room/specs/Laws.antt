-- Laws of room.
use Rattle.std.specs.Prelude.{◌≡◌, ℕ, ◌+◌, ◌-◌, ◌<◌, ◌≤◌, false, length}
use Rattle.edid_base.specs.declared.base.Base.{Base}
use Rattle.edid_cta.specs.Block.{block_bytes}
use Rattle.edid_cta.specs.declared.block.DataBlock.{DataBlock}
use Rattle.edid_cta.specs.declared.cta.Cta.{Cta}
use Rattle.edid_room.specs.Room.{base_left, base_used, cta_left, cta_tail, cta_used, unused_descriptors, unused_standards}
use Rattle.edid_texts.specs.Draft.{bytes_open}
use Rattle.edid_texts.specs.Drafts.{BlockFits, TailFits}
use Rattle.edid_texts.specs.Lines.{block_line, bytes_without_zeros, tail_line}
use Rattle.edid_texts.specs.Tails.{fills}
use Rattle.edid_texts.specs.declared.stage.Stage.TheVariants.{Opened}

-- what is used and what is left are the block's 128 bytes
abbrev pub BaseIsWhole : Type 0
BaseIsWhole = (b : Base) → base_used (unused_descriptors b.descriptors) (unused_standards b.standard) + base_left (unused_descriptors b.descriptors) (unused_standards b.standard) ≡ 128

abbrev pub CtaIsWhole : Type 0
CtaIsWhole = (c : Cta) → cta_used c + cta_left c ≡ 128

-- After the data blocks and the timings of its text the reader has room for what is left and for the tail.
abbrev pub ReaderHasRoom : Type 0
ReaderHasRoom = (c : Cta) → bytes_open (Opened c.flags (cta_left c + cta_tail c)) c.blocks.items c.timings.items ≡ 123

-- A data block as long as what is left, or shorter, fits there, and the tail after it.
abbrev pub ShorterFit : Type 0
ShorterFit =
    (c : Cta) (b : DataBlock) → length (block_bytes b) ≤ cta_left c
    → BlockFits (cta_left c + cta_tail c) (block_line b) × TailFits (cta_left c + cta_tail c - length (block_bytes b)) (tail_line c.tail.items)

-- After a longer one the tail has no room, or the block has none.
abbrev pub LongerDoNot : Type 0
LongerDoNot =
    (c : Cta) (n : ℕ) → cta_left c < n → n ≤ cta_left c + cta_tail c → fills (cta_left c + cta_tail c - n) (bytes_without_zeros c.tail.items) ≡ false
