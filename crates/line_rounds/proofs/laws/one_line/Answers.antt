use Rattle.line_rounds.proofs.Unique as Unique
use Rattle.line_rounds.proofs.laws.one_line.Goals as goal

pub returns : goal.returns
returns c = Unique.one_line
