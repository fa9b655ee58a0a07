use Rattle.line_reading.proofs.AlongBy as AlongBy
use Rattle.line_reading.proofs.Causes as Causes
use Rattle.line_reading.proofs.laws.slots_are_known_one_by_one.Goals as goal

pub returns-clause-late : goal.returns-clause-late
returns-clause-late c = Causes.late_read

pub returns-clause-fallen : goal.returns-clause-fallen
returns-clause-fallen c = Causes.known_then

pub returns-clause-sampled : goal.returns-clause-sampled
returns-clause-sampled c = Causes.known_front

pub returns-clause-inside : goal.returns-clause-inside
returns-clause-inside c = Causes.known_in_slot

pub returns-clause-quiet : goal.returns-clause-quiet
returns-clause-quiet c = AlongBy.quiet_sample

pub returns-clause-bits : goal.returns-clause-bits
returns-clause-bits c = AlongBy.reported_more
