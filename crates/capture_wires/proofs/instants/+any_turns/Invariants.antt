use Rattle.std.proofs.Common.{length}
use Rattle.capture_wires.proofs.instants.+any_turns.Given as goal

abbrev pub decreases-any_turns : goal.decreases-any_turns
decreases-any_turns l = length l.drives.now
