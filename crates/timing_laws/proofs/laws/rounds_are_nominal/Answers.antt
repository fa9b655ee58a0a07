use Rattle.timing_laws.proofs.Nominal.{rounds_are_nominal}
use Rattle.timing_laws.proofs.laws.rounds_are_nominal.Goals as goal

pub returns : goal.returns
returns c = rounds_are_nominal
