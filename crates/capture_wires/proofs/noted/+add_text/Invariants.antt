use Rattle.std.proofs.Common.{length}
use Rattle.capture_wires.proofs.noted.+add_text.Given as goal

abbrev pub decreases-add_text : goal.decreases-add_text
decreases-add_text g l = length l.text.now
