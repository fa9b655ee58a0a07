use Rattle.std.proofs.Common.{length}
use Rattle.edid_merge.proofs.blocks.+first_of.Given as goal

abbrev pub decreases-first_of : goal.decreases-first_of
decreases-first_of l = length l.blocks.now
