use Rattle.std.proofs.Common.{length}
use Rattle.infoframe_claims.proofs.codes.+marks.Given as goal

abbrev pub decreases-marks : goal.decreases-marks
decreases-marks l = length l.codes.now
