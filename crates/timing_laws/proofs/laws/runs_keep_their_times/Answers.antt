use Rattle.timing_laws.proofs.Told.{runs_keep_their_times}
use Rattle.timing_laws.proofs.laws.runs_keep_their_times.Goals as goal

pub returns : goal.returns
returns c = runs_keep_their_times
