-- The round that is looked for (own).
use Rattle.std.specs.Prelude.{ℕ, ◌==◌, ◌||◌, not, Bool, false, List, slice_get, Option, Some, None}
use Rattle.std.specs.List.{list_any}
use Rattle.line_frames.specs.Blocks.{frame_in}
use Rattle.line_rounds.specs.declared.Outcome.{Outcome}
use Rattle.message_text.specs.ReadingText.{is_complete}
use Rattle.room_step_text.specs.declared.break_at.Break.{Break}
use Rattle.room_step_text.specs.declared.break_at.Break.TheVariants.{Opcode, Device, AnyBreak}

abbrev pub is_byte : ℕ → Option ℕ → Bool
is_byte opcode None = false
is_byte opcode (Some byte) = byte == opcode

-- a complete frame with that opcode
abbrev pub has_opcode : ℕ → Option (List ℕ) → Bool
has_opcode opcode None = false
has_opcode opcode (Some frame) = is_byte opcode (slice_get frame 1)

-- a round stops the search: it reads a frame with the opcode; the device was among those that sent, to the end or until
-- they were out; or its ending is not complete
abbrev pub stops : Break → Outcome → Bool
stops (Opcode opcode) o = has_opcode opcode (frame_in o.reading)
stops (Device device) o = list_any (λ seat. seat == device) o.survivors.items || list_any (λ loser. loser.seat == device) o.losers.items
stops AnyBreak o = not (is_complete o.reading.ending)
