-- What became of a frame that was sent (CEC 9; the numbers are this profile's own).
use Rattle.std.specs.Prelude.{ℕ, Some, None}
use Rattle.line_reading.specs.declared.sender.SenderState.{SenderState}
use Rattle.line_reading.specs.declared.sender.SenderState.TheVariants.{Sending, Out, Stopped}
use Rattle.line_frames.specs.declared.Ending.{Ending}
use Rattle.line_frames.specs.declared.Ending.TheVariants.{Open}
use Rattle.line_frames.specs.declared.Fate.{Fate}
use Rattle.line_frames.specs.declared.Fate.TheVariants.{Delivered, Unacked, Lost, Broken}
use Rattle.line_frames.specs.declared.Reading.{Reading}
use Rattle.line_rounds.specs.Round.{fate_by}
use Rattle.library_answers.specs.Codes.{number_of}
use Rattle.library_answers.specs.declared.code.Code.{Code}
use Rattle.library_answers.specs.declared.code.Code.TheVariants.{Done, Absent}
use Rattle.library_wire.specs.declared.fate.SentFate.{SentFate}

abbrev pub fate_number : Fate → ℕ
fate_number Delivered = 1
fate_number Unacked = 2
fate_number Lost = 3
fate_number Broken = 4

abbrev pub known_fate : Fate → SentFate
known_fate fate = record { code = number_of Done; fate = fate_number fate }

abbrev pub fate_code : Code → SentFate
fate_code code = record { code = number_of code; fate = 0 }

-- of a sender that stopped when the reading ended
abbrev pub fate_stopped : Ending → Reading → SentFate
fate_stopped Open r = fate_code Absent
fate_stopped _ r = known_fate (fate_by r.ending r.bits.items None)

-- of a sender that stands so, by the reading that it began: as in a round (`fate_by`)
abbrev pub fate_reported : SenderState → Reading → SentFate
fate_reported Sending r = fate_code Absent
fate_reported (Out slot) r = known_fate (fate_by r.ending r.bits.items (Some slot))
fate_reported Stopped r = fate_stopped r.ending r
