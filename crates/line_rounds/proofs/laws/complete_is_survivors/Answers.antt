use Rattle.line_rounds.proofs.Survivors as Survivors
use Rattle.line_rounds.proofs.laws.complete_is_survivors.Goals as goal

pub returns : goal.returns
returns c = Survivors.complete_is_survivors
