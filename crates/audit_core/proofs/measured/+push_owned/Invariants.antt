use Rattle.std.proofs.Common.{length}
use Rattle.audit_core.proofs.measured.+push_owned.Given as goal

abbrev pub decreases-push_owned : goal.decreases-push_owned
decreases-push_owned l = length l.lows.now
