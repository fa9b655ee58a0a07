use Rattle.std.proofs.Common.{length}
use Rattle.conversion_fields.proofs.blocks.+add_blocks.Given as goal

abbrev pub decreases-add_blocks : goal.decreases-add_blocks
decreases-add_blocks g l = length l.blocks.now
