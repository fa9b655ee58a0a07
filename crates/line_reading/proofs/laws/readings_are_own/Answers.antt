use Rattle.line_reading.proofs.Alike as Alike
use Rattle.line_reading.proofs.laws.readings_are_own.Goals as goal

pub returns : goal.returns
returns c = Alike.same_read
