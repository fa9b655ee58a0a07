use Rattle.line_rounds.proofs.Hold as Hold
use Rattle.line_rounds.proofs.laws.acknowledgers_hold.Goals as goal

pub returns : goal.returns
returns c = Hold.acknowledgers_hold
