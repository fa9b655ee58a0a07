use Rattle.line_rounds.proofs.Exists as Exists
use Rattle.line_rounds.proofs.laws.alike_pulses.Goals as goal

pub returns : goal.returns
returns c = Exists.alike_pulses
