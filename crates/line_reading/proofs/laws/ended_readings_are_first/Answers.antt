use Rattle.line_reading.proofs.Reported as Reported
use Rattle.line_reading.proofs.laws.ended_readings_are_first.Goals as goal

pub returns : goal.returns
returns c = Reported.ended_first
