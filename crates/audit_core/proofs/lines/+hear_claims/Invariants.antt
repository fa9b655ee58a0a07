use Rattle.std.proofs.Common.{length}
use Rattle.audit_core.proofs.lines.+hear_claims.Given as goal

abbrev pub decreases-hear_claims : goal.decreases-hear_claims
decreases-hear_claims g l = length l.claims.now
