use Rattle.std.proofs.Common.{length}
use Rattle.rules_values.proofs.block_parts.+begins_with_forum.Given as goal

abbrev pub decreases-begins_with_forum : goal.decreases-begins_with_forum
decreases-begins_with_forum l = length l.blocks.now
