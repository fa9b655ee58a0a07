use Rattle.line_rounds.proofs.Exists as Exists
use Rattle.line_rounds.proofs.laws.has_line.Goals as goal

pub returns : goal.returns
returns c = Exists.has_line
