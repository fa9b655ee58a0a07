use Rattle.std.proofs.Common.{length}
use Rattle.edid_merge.proofs.speakers.+add_spoken_extensions.Given as goal

abbrev pub decreases-add_spoken_extensions : goal.decreases-add_spoken_extensions
decreases-add_spoken_extensions l = length l.extensions.now
