use Rattle.std.proofs.Common.{length}
use Rattle.edid_tables.proofs.layouts.+first_fit.Given as goal

abbrev pub decreases-first_fit : goal.decreases-first_fit
decreases-first_fit l = length l.layouts.now
