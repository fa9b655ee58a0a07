use Rattle.timing_laws.proofs.Fine.{runs_are_fine}
use Rattle.timing_laws.proofs.laws.runs_are_fine.Goals as goal

pub returns : goal.returns
returns c = runs_are_fine
