use Rattle.std.proofs.Common.{length}
use Rattle.edid_eld.proofs.sound.Sound.+hear_blocks.Given as goal

abbrev pub decreases-hear_blocks : goal.decreases-hear_blocks
decreases-hear_blocks l = length l.blocks.now
