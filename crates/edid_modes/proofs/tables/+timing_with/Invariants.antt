use Rattle.std.proofs.Common.{length}
use Rattle.edid_modes.proofs.tables.+timing_with.Given as goal

abbrev pub decreases-timing_with : goal.decreases-timing_with
decreases-timing_with l = length l.rows.now
