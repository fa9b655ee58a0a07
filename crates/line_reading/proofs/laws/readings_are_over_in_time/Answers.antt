use Rattle.line_reading.proofs.Causes as Causes
use Rattle.line_reading.proofs.Ends as Ends
use Rattle.line_reading.proofs.laws.readings_are_over_in_time.Goals as goal

pub returns-clause-after_fall : goal.returns-clause-after_fall
returns-clause-after_fall c = Ends.begin_by

pub returns-clause-lately : goal.returns-clause-lately
returns-clause-lately c = Ends.lately

pub returns-clause-by_ending : goal.returns-clause-by_ending
returns-clause-by_ending c = Ends.until_by

pub returns-clause-ends : goal.returns-clause-ends
returns-clause-ends c = Ends.ends_after

pub returns-clause-ends_soon : goal.returns-clause-ends_soon
returns-clause-ends_soon c = Ends.at_by

pub returns-clause-slots_after_fall : goal.returns-clause-slots_after_fall
returns-clause-slots_after_fall c = Causes.not_over

pub returns-clause-slots_by_ending : goal.returns-clause-slots_by_ending
returns-clause-slots_by_ending c = Ends.slots_until

pub returns-clause-plain : goal.returns-clause-plain
returns-clause-plain c = Causes.last_plain
