use Rattle.line_rounds.proofs.Bounds as Bounds
use Rattle.line_rounds.proofs.laws.rounds_are_short.Goals as goal

pub returns : goal.returns
returns c = Bounds.rounds_are_short
