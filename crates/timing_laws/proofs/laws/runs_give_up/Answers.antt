use Rattle.timing_laws.proofs.Told.{runs_give_up}
use Rattle.timing_laws.proofs.laws.runs_give_up.Goals as goal

pub returns : goal.returns
returns c = runs_give_up
