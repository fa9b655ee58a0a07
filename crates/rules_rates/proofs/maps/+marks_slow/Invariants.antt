use Rattle.std.proofs.Common.{length}
use Rattle.rules_rates.proofs.maps.+marks_slow.Given as goal

abbrev pub decreases-marks_slow : goal.decreases-marks_slow
decreases-marks_slow l = length l.codes.now
