-- Signal free time: how long the line has to have been free before a device sends (CEC 9.1), in microseconds. It is three
-- nominal bit periods of 2,400 before an initiator sends a frame again, five before a new initiator sends, and seven before
-- one sends again that sent last.
use Rattle.std.specs.Prelude.{ℕ}
use Rattle.line_frames.specs.declared.free_time.FreeTime.{FreeTime}
use Rattle.line_frames.specs.declared.free_time.FreeTime.TheVariants.{Retry, NewInitiator, PresentInitiator}

abbrev pub free_time_of : FreeTime → ℕ
free_time_of Retry = 7200
free_time_of NewInitiator = 12000
free_time_of PresentInitiator = 16800
