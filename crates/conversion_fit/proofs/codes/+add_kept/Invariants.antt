use Rattle.std.proofs.Common.{length}
use Rattle.conversion_fit.proofs.codes.+add_kept.Given as goal

abbrev pub decreases-add_kept : goal.decreases-add_kept
decreases-add_kept l = length l.svds.now
