use Rattle.std.proofs.Common.{length}
use Rattle.conversion_fields.proofs.laws.+blocks_bits_stand_once.Given as goal

abbrev pub decreases-blocks_bits_stand_once : goal.decreases-blocks_bits_stand_once
decreases-blocks_bits_stand_once l = length l.blocks.now
