use Rattle.line_reading.proofs.Causes as Causes
use Rattle.line_reading.proofs.laws.starts_tell_nothing.Goals as goal

pub returns-clause-low : goal.returns-clause-low
returns-clause-low c = Causes.known_start_low

pub returns-clause-high : goal.returns-clause-high
returns-clause-high c = Causes.known_start_high

pub returns-clause-risen : goal.returns-clause-risen
returns-clause-risen c = Causes.start_risen
