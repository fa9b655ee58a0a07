use Rattle.std.proofs.lemmas.List.{take_rest}
use Rattle.conversion_fields.proofs.Tiles.{first_block, no_blocks}
use Rattle.conversion_fields.proofs.laws.+blocks_bits_stand_once.Goals as goal

pub returns-in-len1-up : goal.returns-in-len1-up
returns-in-len1-up t c at =
    first_block c.args.blocks.now c.block-item.result _ c.in-len1-up.len_at_least c.block-item.is c.block_bits_stand_once.ensures (rw take_rest at c.blocks_bits_stand_once.ensures) at

pub returns-in_default : goal.returns-in_default
returns-in_default t c at = no_blocks c.args.blocks.now c.in_default.len_below at
