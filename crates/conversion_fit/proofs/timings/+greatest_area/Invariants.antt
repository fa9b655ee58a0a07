use Rattle.std.proofs.Common.{length}
use Rattle.conversion_fit.proofs.timings.+greatest_area.Given as goal

abbrev pub decreases-greatest_area : goal.decreases-greatest_area
decreases-greatest_area l = length l.timings.now
