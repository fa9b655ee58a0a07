use Rattle.std.proofs.Common.{length}
use Rattle.capture_wires.proofs.noted.+is_noted.Given as goal

abbrev pub decreases-is_noted : goal.decreases-is_noted
decreases-is_noted l = length l.notes.now
