use Rattle.line_reading.proofs.Causes as Causes
use Rattle.line_reading.proofs.laws.readings_are_causal.Goals as goal

pub returns : goal.returns
returns c = Causes.reading_alike
