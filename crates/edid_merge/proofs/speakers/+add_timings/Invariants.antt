use Rattle.std.proofs.Common.{length}
use Rattle.edid_merge.proofs.speakers.+add_timings.Given as goal

abbrev pub decreases-add_timings : goal.decreases-add_timings
decreases-add_timings l = length l.timings.now
