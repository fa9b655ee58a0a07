use Rattle.std.proofs.Common.{length}
use Rattle.audit_core.proofs.lines.+hear_counts.Given as goal

abbrev pub decreases-hear_counts : goal.decreases-hear_counts
decreases-hear_counts g l = length l.counts.now
