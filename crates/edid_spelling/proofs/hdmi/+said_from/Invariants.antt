use Rattle.std.proofs.Common.{length}
use Rattle.edid_spelling.proofs.hdmi.+said_from.Given as goal

abbrev pub decreases-said_from : goal.decreases-said_from
decreases-said_from l = length l.rows.now
