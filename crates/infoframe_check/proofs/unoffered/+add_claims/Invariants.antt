use Rattle.std.proofs.Common.{length}
use Rattle.infoframe_check.proofs.unoffered.+add_claims.Given as goal

abbrev pub decreases-add_claims : goal.decreases-add_claims
decreases-add_claims g l = length l.claims.now
