use Rattle.std.proofs.Common.{length}
use Rattle.capture_wires.proofs.noted.+next_note.Given as goal

abbrev pub decreases-next_note : goal.decreases-next_note
decreases-next_note l = length l.notes.now
