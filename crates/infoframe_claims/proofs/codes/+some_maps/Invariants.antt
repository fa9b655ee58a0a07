use Rattle.std.proofs.Common.{length}
use Rattle.infoframe_claims.proofs.codes.+some_maps.Given as goal

abbrev pub decreases-some_maps : goal.decreases-some_maps
decreases-some_maps l = length l.blocks.now
