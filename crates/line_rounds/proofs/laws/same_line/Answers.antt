use Rattle.line_rounds.proofs.SameLine as SameLine
use Rattle.line_rounds.proofs.laws.same_line.Goals as goal

pub returns : goal.returns
returns c = SameLine.same_line
