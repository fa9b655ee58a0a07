use Rattle.line_reading.proofs.Keeping as Keeping
use Rattle.line_reading.proofs.laws.readings_run_from_their_falls.Goals as goal

pub returns-clause-none : goal.returns-clause-none
returns-clause-none c = Keeping.none_runs

pub returns-clause-one : goal.returns-clause-one
returns-clause-one c = Keeping.one_runs
