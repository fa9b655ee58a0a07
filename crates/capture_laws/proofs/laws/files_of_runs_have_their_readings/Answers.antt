use Rattle.capture_laws.proofs.ReadBack as lemmas
use Rattle.capture_laws.proofs.laws.files_of_runs_have_their_readings.Goals as goal

pub returns : goal.returns
returns c = lemmas.files_of_runs_have_their_readings
