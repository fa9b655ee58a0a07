use Rattle.std.proofs.Common.{length}
use Rattle.rules_rates.proofs.maps.+marks_past.Given as goal

abbrev pub decreases-marks_past : goal.decreases-marks_past
decreases-marks_past l = length l.bytes.now
