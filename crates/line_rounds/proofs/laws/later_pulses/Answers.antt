use Rattle.line_rounds.proofs.Exists as Exists
use Rattle.line_rounds.proofs.laws.later_pulses.Goals as goal

pub returns : goal.returns
returns c = Exists.later_pulses
