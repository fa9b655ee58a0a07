use Rattle.std.proofs.Common.{length}
use Rattle.capture_wires.proofs.instants.+next_end_of.Given as goal

abbrev pub decreases-next_end_of : goal.decreases-next_end_of
decreases-next_end_of l = length l.drives.now
