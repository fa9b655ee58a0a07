use Rattle.line_rounds.proofs.OneOutcome as OneOutcome
use Rattle.line_rounds.proofs.laws.one_outcome.Goals as goal

pub returns : goal.returns
returns c = OneOutcome.one_outcome
