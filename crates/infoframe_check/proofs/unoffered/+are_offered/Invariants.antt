use Rattle.std.proofs.Common.{length}
use Rattle.infoframe_check.proofs.unoffered.+are_offered.Given as goal

abbrev pub decreases-are_offered : goal.decreases-are_offered
decreases-are_offered l = length l.claims.now
