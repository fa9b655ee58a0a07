use Rattle.std.proofs.Common.{length}
use Rattle.infoframe_claims.proofs.sounds.+some_take.Given as goal

abbrev pub decreases-some_take : goal.decreases-some_take
decreases-some_take l = length l.formats.now
