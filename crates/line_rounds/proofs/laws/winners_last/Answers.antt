use Rattle.line_rounds.proofs.Law as Law
use Rattle.line_rounds.proofs.laws.winners_last.Goals as goal

pub returns : goal.returns
returns c = Law.winners_last
