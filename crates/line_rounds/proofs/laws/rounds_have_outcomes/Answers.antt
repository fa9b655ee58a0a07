use Rattle.line_rounds.proofs.HasOutcome as HasOutcome
use Rattle.line_rounds.proofs.laws.rounds_have_outcomes.Goals as goal

pub returns : goal.returns
returns c = HasOutcome.rounds_have_outcomes
