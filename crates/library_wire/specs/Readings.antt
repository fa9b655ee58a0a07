-- Readings of the line, in plain numbers (this profile's own).
use Rattle.std.specs.Prelude.{◌≡◌, ℕ, nat_le, if◌then◌else◌, List, length, take, Option, Some, None, option_map}
use Rattle.line_frames.specs.Blocks.{frame_in}
use Rattle.line_frames.specs.declared.Ending.{Ending}
use Rattle.line_frames.specs.declared.Reading.{Reading}
use Rattle.line_reading.specs.Readings.{Listed}
use Rattle.library_answers.specs.Room.{IsPut, IsRefused}
use Rattle.library_answers.specs.declared.answer.Answer.{Answer}
use Rattle.library_answers.specs.declared.code.Code.TheVariants.{Absent, State}
use Rattle.library_wire.specs.Heard.{ending_in, ending_number}
use Rattle.library_wire.specs.declared.readings.ReadingParts.{ReadingParts}
use Rattle.line_frames.specs.Bits.{most_bits}

pub record AreReadingParts (reading : Listed) (parts : ReadingParts) : Type 0 where
  pub begin : parts.begin ≡ reading.begin
  pub at : parts.at ≡ reading.reported.at
  pub ending : parts.ending ≡ ending_number reading.reported.ending
  pub count : parts.count ≡ length reading.reported.bits
  pub bits : take parts.count parts.bits ≡ reading.reported.bits

-- a reading is put in place of what was there, if there is one
abbrev pub IsReadingPut : Option Listed → ReadingParts → ReadingParts → Type 0
IsReadingPut None old new = new ≡ old
IsReadingPut (Some reading) old new = AreReadingParts reading new

-- the reading of an ending and of as many bits as are counted
abbrev pub reading_of : ReadingParts → Ending → Reading
reading_of parts ending = record { begin = parts.begin; at = parts.at; ending = ending; bits = record { items = take parts.count parts.bits } }

-- the reading of these numbers, of which some are none
abbrev pub reading_in : ReadingParts → Option Reading
reading_in parts = if nat_le parts.count most_bits then option_map (reading_of parts) (ending_in parts.ending) else None

-- a frame's bytes are put into the room, or there is none
abbrev pub IsFrameAnswer : Option (List ℕ) → List ℕ → List ℕ → Answer → Type 0
IsFrameAnswer (Some frame) old new answer = IsPut frame old new answer
IsFrameAnswer None old new answer = IsRefused Absent 0 old new answer

abbrev pub IsReadingFrame : Option Reading → List ℕ → List ℕ → Answer → Type 0
IsReadingFrame (Some reading) old new answer = IsFrameAnswer (frame_in reading) old new answer
IsReadingFrame None old new answer = IsRefused State 0 old new answer
