use Rattle.std.proofs.Common.{length}
use Rattle.edid_displayid.proofs.extensions.+append_blocks.Given as goal

abbrev pub decreases-append_blocks : goal.decreases-append_blocks
decreases-append_blocks l = length l.blocks.now
