use Rattle.std.proofs.Common.{length}
use Rattle.capture_wires.proofs.instants.+next_end.Given as goal

abbrev pub decreases-next_end : goal.decreases-next_end
decreases-next_end l = length l.wire.now
