use Rattle.line_rounds.proofs.Lasting as Lasting
use Rattle.line_rounds.proofs.laws.rounds_last.Goals as goal

pub returns : goal.returns
returns c = Lasting.rounds_last
