use Rattle.std.proofs.Common.{length}
use Rattle.meaning_extended.proofs.videos.+append_places.Given as goal

abbrev pub decreases-append_places : goal.decreases-append_places
decreases-append_places l = length l.bytes.now
