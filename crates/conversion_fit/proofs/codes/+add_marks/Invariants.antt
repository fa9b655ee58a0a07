use Rattle.std.proofs.Common.{length}
use Rattle.conversion_fit.proofs.codes.+add_marks.Given as goal

abbrev pub decreases-add_marks : goal.decreases-add_marks
decreases-add_marks l = length l.svds.now
