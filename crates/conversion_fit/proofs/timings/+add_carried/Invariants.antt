use Rattle.std.proofs.Common.{length}
use Rattle.conversion_fit.proofs.timings.+add_carried.Given as goal

abbrev pub decreases-add_carried : goal.decreases-add_carried
decreases-add_carried l = length l.timings.now
