-- A piece as a reading (own): where it begins, how and where it ends, and its bits.
use Rattle.std.specs.Prelude.{ℕ, List, map, Option, Some, None}
use Rattle.line_frames.specs.declared.Ending.{Ending}
use Rattle.line_frames.specs.declared.Ending.TheVariants as endings
use Rattle.line_reading.specs.Readings.{Listed}
use Rattle.line_reading.specs.Windows.{sample_at}
use Rattle.audit_widths.specs.Spreads.{sum_of}
use Rattle.audit_pieces.specs.declared.piece.PieceEnding.{PieceEnding}
use Rattle.audit_pieces.specs.declared.piece.PieceEnding.TheVariants.{Complete, Stops, Drive, Overrun, Intruder, Long, Open, Stray, Mid}
use Rattle.audit_pieces.specs.declared.stretch.LowStretch.{LowStretch}
use Rattle.audit_pieces.specs.Pieces.{Parts, Whole, slot_fall}
use Rattle.audit_pieces.specs.Slots.{bit_of}

-- What stops is silent, and what a fall breaks off is short; bits without a start bit begin badly.
abbrev pub ending_as : PieceEnding → Ending
ending_as Complete = endings.Complete
ending_as Stops = endings.Silent
ending_as Drive = endings.Short
ending_as Overrun = endings.Short
ending_as Intruder = endings.Short
ending_as Long = endings.Long
ending_as Open = endings.Open
ending_as Stray = endings.BadStart
ending_as Mid = endings.BadStart

-- the fall that breaks it off, or its last one
abbrev pub last_fall : Parts → Option LowStretch → ℕ
last_fall p None = p.last
last_fall p (Some x) = x.fall

-- the sample of its last slot (CEC 5.2.2)
abbrev pub last_sample : Parts → ℕ
last_sample p = sum_of (slot_fall p p.slots) sample_at

-- A frame with all of its slots ends with the sample of the last one.
abbrev pub close_by : Parts → PieceEnding → ℕ
close_by p Complete = last_sample p
close_by p Stops = last_fall p p.broken_by
close_by p Drive = last_fall p p.broken_by
close_by p Overrun = last_fall p p.broken_by
close_by p Intruder = last_fall p p.broken_by
close_by p Long = last_sample p
close_by p Open = last_fall p p.broken_by
close_by p Stray = last_fall p p.broken_by
close_by p Mid = last_fall p p.broken_by

abbrev pub listed_of : Whole → Listed
listed_of p = record { begin = p.parts.head.fall; reported = record { bits = map bit_of p.parts.slots; ending = ending_as p.ending; at = close_by p.parts p.ending } }
