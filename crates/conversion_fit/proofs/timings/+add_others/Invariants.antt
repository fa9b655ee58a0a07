use Rattle.std.proofs.Common.{length}
use Rattle.conversion_fit.proofs.timings.+add_others.Given as goal

abbrev pub decreases-add_others : goal.decreases-add_others
decreases-add_others l = length l.timings.now
