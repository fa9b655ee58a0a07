use Rattle.std.proofs.Common.{length}
use Rattle.capture_wires.proofs.instants.+add_changes.Given as goal

abbrev pub decreases-add_changes : goal.decreases-add_changes
decreases-add_changes g l = length l.drives.now
