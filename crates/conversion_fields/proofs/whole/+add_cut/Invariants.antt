use Rattle.std.proofs.Common.{length}
use Rattle.conversion_fields.proofs.whole.+add_cut.Given as goal

abbrev pub decreases-add_cut : goal.decreases-add_cut
decreases-add_cut g l = length l.rows.now
