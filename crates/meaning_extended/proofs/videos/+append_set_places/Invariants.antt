use Rattle.std.proofs.Common.{length}
use Rattle.meaning_extended.proofs.videos.+append_set_places.Given as goal

abbrev pub decreases-append_set_places : goal.decreases-append_set_places
decreases-append_set_places l = length l.weights.now
