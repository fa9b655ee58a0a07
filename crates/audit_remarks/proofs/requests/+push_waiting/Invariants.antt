use Rattle.std.proofs.Common.{length}
use Rattle.audit_remarks.proofs.requests.+push_waiting.Given as goal

abbrev pub decreases-push_waiting : goal.decreases-push_waiting
decreases-push_waiting l = length l.waiting.now
