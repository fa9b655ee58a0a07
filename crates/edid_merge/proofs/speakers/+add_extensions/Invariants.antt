use Rattle.std.proofs.Common.{length}
use Rattle.edid_merge.proofs.speakers.+add_extensions.Given as goal

abbrev pub decreases-add_extensions : goal.decreases-add_extensions
decreases-add_extensions l = length l.extensions.now
