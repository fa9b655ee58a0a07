use Rattle.std.proofs.Common.{length}
use Rattle.audit_report.proofs.texts.+add_counts.Given as goal

abbrev pub decreases-add_counts : goal.decreases-add_counts
decreases-add_counts g l = length l.counts.now
