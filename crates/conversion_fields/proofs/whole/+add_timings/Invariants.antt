use Rattle.std.proofs.Common.{length}
use Rattle.conversion_fields.proofs.whole.+add_timings.Given as goal

abbrev pub decreases-add_timings : goal.decreases-add_timings
decreases-add_timings g l = length l.timings.now
