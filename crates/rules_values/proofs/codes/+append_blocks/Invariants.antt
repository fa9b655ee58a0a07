use Rattle.std.proofs.Common.{length}
use Rattle.rules_values.proofs.codes.+append_blocks.Given as goal

abbrev pub decreases-append_blocks : goal.decreases-append_blocks
decreases-append_blocks l = length l.blocks.now
