use Rattle.std.proofs.Common.{length}
use Rattle.edid_merge.proofs.extension.+add_fitting.Given as goal

abbrev pub decreases-add_fitting : goal.decreases-add_fitting
decreases-add_fitting l = length l.timings.now
