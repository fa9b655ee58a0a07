use Rattle.std.proofs.Common.{subst₂}
use Rattle.conversion_fields.proofs.Tiles.{Law, block-tiles}
use Rattle.conversion_fields.proofs.laws.block_bits_stand_once.Goals as goal

pub returns : goal.returns
returns c at =
    block-tiles at c.args.block.now (subst₂ Law c.frame_parts.ensures.value c.head_of.ensures c.every_bit_stands_once.ensures)
    (subst₂ Law c.front_parts.ensures.value c.as_slice.ensures.value c.every_bit_stands_once-2.ensures)
    (subst₂ Law c.body_parts.ensures.value c.body_of.ensures.value c.every_bit_stands_once-3.ensures)
