use Rattle.std.proofs.Common.{length}
use Rattle.edid_merge.proofs.speakers.+add_mute.Given as goal

abbrev pub decreases-add_mute : goal.decreases-add_mute
decreases-add_mute l = length l.blocks.now
