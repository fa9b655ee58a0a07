use Rattle.std.proofs.Common.{length}
use Rattle.audit_remarks.proofs.attempts.+same_from.Given as goal

abbrev pub decreases-same_from : goal.decreases-same_from
decreases-same_from l = length l.earlier.now
