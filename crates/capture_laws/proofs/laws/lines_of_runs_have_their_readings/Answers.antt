use Rattle.capture_laws.proofs.Formats as lemmas
use Rattle.capture_laws.proofs.laws.lines_of_runs_have_their_readings.Goals as goal

pub returns : goal.returns
returns c = lemmas.lines_of_runs_have_their_readings
