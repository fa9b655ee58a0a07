use Rattle.line_rounds.proofs.Winning as Winning
use Rattle.line_rounds.proofs.laws.complete_is_read.Goals as goal

pub returns : goal.returns
returns c = Winning.complete_is_read
