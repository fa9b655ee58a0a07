use Rattle.std.proofs.Common.{length}
use Rattle.audit_report.proofs.texts.+has_counts.Given as goal

abbrev pub decreases-has_counts : goal.decreases-has_counts
decreases-has_counts l = length l.counts.now
