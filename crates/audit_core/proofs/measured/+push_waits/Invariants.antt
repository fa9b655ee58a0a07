use Rattle.std.proofs.Common.{length}
use Rattle.audit_core.proofs.measured.+push_waits.Given as goal

abbrev pub decreases-push_waits : goal.decreases-push_waits
decreases-push_waits l = length l.waiting.now
