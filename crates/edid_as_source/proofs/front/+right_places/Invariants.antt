use Rattle.std.proofs.Common.{length}
use Rattle.edid_as_source.proofs.front.+right_places.Given as goal

abbrev pub decreases-right_places : goal.decreases-right_places
decreases-right_places l = length l.bytes.now
