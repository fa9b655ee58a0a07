use Rattle.line_reading.proofs.Keeping as Keeping
use Rattle.line_reading.proofs.laws.standings_are_kept.Goals as goal

pub returns : goal.returns
returns c = Keeping.standings_are_kept
