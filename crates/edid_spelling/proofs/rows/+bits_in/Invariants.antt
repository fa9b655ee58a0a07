use Rattle.std.proofs.Common.{length}
use Rattle.edid_spelling.proofs.rows.+bits_in.Given as goal

abbrev pub decreases-bits_in : goal.decreases-bits_in
decreases-bits_in l = length l.rows.now
