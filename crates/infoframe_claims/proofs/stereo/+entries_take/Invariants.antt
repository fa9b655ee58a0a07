use Rattle.std.proofs.Common.{length}
use Rattle.infoframe_claims.proofs.stereo.+entries_take.Given as goal

abbrev pub decreases-entries_take : goal.decreases-entries_take
decreases-entries_take l = length l.entries.now
