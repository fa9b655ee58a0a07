use Rattle.line_rounds.proofs.Alone as Alone
use Rattle.line_rounds.proofs.laws.rounds_are_lone.Goals as goal

pub returns : goal.returns
returns c = Alone.rounds_are_lone
