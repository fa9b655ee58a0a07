use Rattle.std.proofs.Common.{length}
use Rattle.edid_merge.proofs.blocks.+add_blocks.Given as goal

abbrev pub decreases-add_blocks : goal.decreases-add_blocks
decreases-add_blocks l = length l.blocks.now
