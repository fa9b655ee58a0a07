use Rattle.line_reading.proofs.Keeping as Keeping
use Rattle.line_reading.proofs.Stood as Stood
use Rattle.line_reading.proofs.laws.listeners_stand_in_readings.Goals as goal

pub returns-clause-stands : goal.returns-clause-stands
returns-clause-stands c = Stood.stands_at

pub returns-clause-step : goal.returns-clause-step
returns-clause-step c = Stood.step

pub returns-clause-running : goal.returns-clause-running
returns-clause-running c = Keeping.runs_so

pub returns-clause-bits : goal.returns-clause-bits
returns-clause-bits c = Keeping.running_knows
