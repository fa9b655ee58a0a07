use Rattle.line_rounds.proofs.Whole as Whole
use Rattle.line_rounds.proofs.laws.complete_is_winners.Goals as goal

pub returns : goal.returns
returns c = Whole.complete_is_winners
