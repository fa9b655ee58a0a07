use Rattle.std.proofs.Common.{length}
use Rattle.edid_merge.proofs.extension.+cta_blocks.Given as goal

abbrev pub decreases-cta_blocks : goal.decreases-cta_blocks
decreases-cta_blocks l = length l.extensions.now
