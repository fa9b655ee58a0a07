use Rattle.line_rounds.proofs.Law as Law
use Rattle.line_rounds.proofs.laws.losers_inside.Goals as goal

pub returns : goal.returns
returns c = Law.losers_inside
