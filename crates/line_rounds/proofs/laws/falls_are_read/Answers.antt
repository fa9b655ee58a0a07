use Rattle.line_rounds.proofs.AnyFalls as AnyFalls
use Rattle.line_rounds.proofs.laws.falls_are_read.Goals as goal

pub returns : goal.returns
returns c = AnyFalls.falls_are_read
