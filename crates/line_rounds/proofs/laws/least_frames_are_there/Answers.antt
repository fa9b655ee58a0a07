use Rattle.line_rounds.proofs.Law as Law
use Rattle.line_rounds.proofs.Differ as Differ
use Rattle.line_rounds.proofs.laws.least_frames_are_there.Goals as goal

pub returns-clause-some : goal.returns-clause-some
returns-clause-some c = Law.least_of

pub returns-clause-least : goal.returns-clause-least
returns-clause-least c = Differ.is_least
