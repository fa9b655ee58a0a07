use Rattle.std.proofs.Common.{length}
use Rattle.edid_spelling.proofs.rows.+stands_for.Given as goal

abbrev pub decreases-stands_for : goal.decreases-stands_for
decreases-stands_for l = length l.rows.now
