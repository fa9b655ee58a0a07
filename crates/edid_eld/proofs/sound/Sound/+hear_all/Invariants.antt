use Rattle.std.proofs.Common.{length}
use Rattle.edid_eld.proofs.sound.Sound.+hear_all.Given as goal

abbrev pub decreases-hear_all : goal.decreases-hear_all
decreases-hear_all l = length l.extensions.now
