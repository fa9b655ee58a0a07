-- The bytes of a frame that was delivered, or was sent (CEC 6.1): the header, the opcode, the operands. A byte that it has not counts as 0.
use Rattle.std.specs.Prelude.{ℕ, ◌/◌, ◌%◌, ◌||◌, List, [], slice_index, Option, Some, None, if◌then◌else◌}
use Rattle.line_frames.specs.declared.Ending.TheVariants.{Complete}
use Rattle.line_frames.specs.Blocks.{frame_by, frame_in}
use Rattle.line_reading.specs.Readings.{Listed}
use Rattle.capture_monitor.specs.Watch.{reading_as}
use Rattle.message_text.specs.ReadingText.{is_complete}
use Rattle.audit_remarks.specs.Header.{ends_untaken, is_delivered}

abbrev pub bytes_or_none : Option (List ℕ) → List ℕ
bytes_or_none None = []
bytes_or_none (Some frame) = frame

-- the frame of a reading, where it was delivered, and else nothing
abbrev pub delivered_frame : Listed → List ℕ
delivered_frame x = if is_delivered x.reported.ending x.reported.bits then bytes_or_none (frame_in (reading_as x)) else []

-- The blocks of a frame that was read whole, acknowledged or not, or up to the one that was not taken, with which it ends (CEC 7.1);
-- of one that was broken nothing.
abbrev pub sent_frame : Listed → List ℕ
sent_frame x =
    if is_complete x.reported.ending || ends_untaken x.reported.bits then bytes_or_none (frame_by Complete x.reported.bits) else []

abbrev pub sender : List ℕ → ℕ
sender frame = slice_index frame 0 / 16

abbrev pub receiver : List ℕ → ℕ
receiver frame = slice_index frame 0 % 16

abbrev pub opcode_of : List ℕ → ℕ
opcode_of frame = slice_index frame 1
