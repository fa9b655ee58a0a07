use Rattle.line_reading.proofs.Parts as Parts
use Rattle.line_reading.proofs.laws.parts_are_read.Goals as goal

pub returns : goal.returns
returns c = Parts.parts_read
