use Rattle.std.proofs.Common.{length}
use Rattle.audit_report.proofs.kinds.+same_text.Given as goal

abbrev pub decreases-same_text : goal.decreases-same_text
decreases-same_text l = length l.left.now
