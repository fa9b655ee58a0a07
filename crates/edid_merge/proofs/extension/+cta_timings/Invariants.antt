use Rattle.std.proofs.Common.{length}
use Rattle.edid_merge.proofs.extension.+cta_timings.Given as goal

abbrev pub decreases-cta_timings : goal.decreases-cta_timings
decreases-cta_timings l = length l.extensions.now
