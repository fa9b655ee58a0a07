use Rattle.std.proofs.Common.{length}
use Rattle.edid_merge.proofs.speakers.+add_spoken.Given as goal

abbrev pub decreases-add_spoken : goal.decreases-add_spoken
decreases-add_spoken l = length l.blocks.now
