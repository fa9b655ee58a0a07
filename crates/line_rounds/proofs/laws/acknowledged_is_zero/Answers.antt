use Rattle.line_rounds.proofs.Acks as Acks
use Rattle.line_rounds.proofs.laws.acknowledged_is_zero.Goals as goal

pub returns : goal.returns
returns c = Acks.acknowledged_is_zero
