use Rattle.std.proofs.Common.{length}
use Rattle.conversion_fit.proofs.timings.+add_all.Given as goal

abbrev pub decreases-add_all : goal.decreases-add_all
decreases-add_all l = length l.timings.now
