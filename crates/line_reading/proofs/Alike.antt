-- A reading depends on the line from its fall to its last microsecond alone, by the standard's windows.
use Rattle.line_reading.specs.Reading.{read_slots}
use Rattle.line_reading.specs.Readings.{ReadingsAreOwn}
use Rattle.line_reading.specs.Windows.{standard}
use Rattle.line_reading.proofs.Standard.{standard_are}
use Rattle.line_reading.proofs.AlikeBy as by

pub same_read : ReadingsAreOwn
unfolding read_slots
same_read = by.same_read standard standard_are
