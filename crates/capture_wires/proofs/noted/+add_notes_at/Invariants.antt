use Rattle.std.proofs.Common.{length}
use Rattle.capture_wires.proofs.noted.+add_notes_at.Given as goal

abbrev pub decreases-add_notes_at : goal.decreases-add_notes_at
decreases-add_notes_at g l = length l.notes.now
