use Rattle.std.proofs.Common.{length}
use Rattle.capture_verdict.proofs.lines.+hum_among.Given as goal

abbrev pub decreases-hum_among : goal.decreases-hum_among
decreases-hum_among l = length l.periods.now
