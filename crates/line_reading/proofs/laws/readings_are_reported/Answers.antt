use Rattle.line_reading.proofs.Reported.{endings_are_reported, running_is_kept}
use Rattle.line_reading.proofs.laws.readings_are_reported.Goals as goal

pub returns-clause-endings : goal.returns-clause-endings
returns-clause-endings c = endings_are_reported

pub returns-clause-running : goal.returns-clause-running
returns-clause-running c = running_is_kept
