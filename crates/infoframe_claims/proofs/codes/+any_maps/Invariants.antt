use Rattle.std.proofs.Common.{length}
use Rattle.infoframe_claims.proofs.codes.+any_maps.Given as goal

abbrev pub decreases-any_maps : goal.decreases-any_maps
decreases-any_maps l = length l.extensions.now
