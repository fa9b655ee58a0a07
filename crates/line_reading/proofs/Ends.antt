-- When a reading is over, by the standard's windows.
use Rattle.line_reading.specs.Windows.{standard}
use Rattle.line_reading.specs.Reading.{read_slots}
use Rattle.line_reading.specs.Over.{OverAfterFall, OverByEnding, EndsOnceOver, EndsAfterFall, OverLately, SlotsOverByEnding}
use Rattle.line_reading.proofs.Standard.{standard_are}
use Rattle.line_reading.proofs.EndsBy as by

pub slots_until : SlotsOverByEnding
unfolding read_slots
slots_until = by.slots_until standard standard_are

pub at_by : EndsOnceOver
unfolding read_slots
at_by = by.at_by standard standard_are

pub until_by : OverByEnding
unfolding read_slots
until_by = by.until_by standard standard_are

pub begin_by : OverAfterFall
unfolding read_slots
begin_by = by.begin_by standard standard_are

pub lately : OverLately
unfolding read_slots
lately = by.lately standard standard_are

pub ends_after : EndsAfterFall
unfolding read_slots
ends_after = by.ends_after standard standard_are
