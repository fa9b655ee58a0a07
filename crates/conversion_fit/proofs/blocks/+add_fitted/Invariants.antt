use Rattle.std.proofs.Common.{length}
use Rattle.conversion_fit.proofs.blocks.+add_fitted.Given as goal

abbrev pub decreases-add_fitted : goal.decreases-add_fitted
decreases-add_fitted l = length l.blocks.now
