use Rattle.std.proofs.Common.{length}
use Rattle.record_core.proofs.line.+add_more_parts.Given as goal

abbrev pub decreases-add_more_parts : goal.decreases-add_more_parts
decreases-add_more_parts g l = length l.parts.now
