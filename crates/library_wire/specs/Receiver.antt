-- A receiver whose state the caller keeps (this profile's own).
use Rattle.std.specs.Prelude.{◌≡◌, ◌≤◌, ◌<◌, ℕ, Bool, Option, Some, None}
use Rattle.line_wave.specs.Bounds.{latest_heard}
use Rattle.line_wave.specs.Line.{Line}
use Rattle.line_reading.specs.Follows.{Follows, StoodBefore}
use Rattle.line_reading.specs.Hears.{heard_by, rest, wake_of}
use Rattle.line_reading.specs.Parts.{ArePartsOf}
use Rattle.line_reading.specs.Readings.{Listed}
use Rattle.line_reading.specs.Reports.{ended_of, running_by}
use Rattle.line_reading.specs.declared.receiver.Receiver.{Receiver}
use Rattle.line_reading.specs.declared.receiver.Told.{Told}
use Rattle.line_reading.specs.declared.receiver.parts.ReceiverParts.{ReceiverParts}
use Rattle.library_answers.specs.Codes.{number_of}
use Rattle.library_answers.specs.declared.code.Code.{Code}
use Rattle.library_answers.specs.declared.code.Code.TheVariants.{Done, Absent, Late, State}
use Rattle.library_wire.specs.Heard.{heard_code, heard_of, instant_of, instant_refused}
use Rattle.library_wire.specs.Readings.{IsReadingPut}
use Rattle.library_wire.specs.declared.heard.Instant.{Instant}
use Rattle.library_wire.specs.declared.heard.InstantHeard.{InstantHeard}
use Rattle.library_wire.specs.declared.readings.ReadingParts.{ReadingParts}

-- no receiver keeps this
abbrev pub IsNoReceiver : ReceiverParts → Type 0
IsNoReceiver parts = (receiver : Receiver) → ArePartsOf receiver parts → ⊥

-- the parts of a receiver that was told nothing: no line has come to it
abbrev pub IsStart : ReceiverParts → Type 0
IsStart parts = (receiver : Receiver) × ArePartsOf receiver parts × (heard_by receiver ≡ rest) × ((low : Line) → StoodBefore receiver low 0)

-- The level at t is noted, and the receiver follows each line that goes on so: what it reports is what t reports of the line,
-- and a reading that t ends is put in its place.
pub record HasHeard (was : Receiver) (t : ℕ) (is_low : Bool) (heard : InstantHeard) (new : ReceiverParts) (old_reading new_reading : ReadingParts) : Type 0 where
  pub noted : Receiver
  pub next : Receiver
  pub reported : Told
  pub keeps : heard_by noted ≡ heard_by was
  pub stood : noted.was_low ≡ was.was_low
  pub level : noted.is_low ≡ is_low
  pub follows : Follows noted t reported next
  pub after : ArePartsOf next new
  pub reports : heard ≡ heard_of reported
  pub reads : IsReadingPut (ended_of reported t (running_by (heard_by was) t)) old_reading new_reading

-- the reading that runs is put in its place, if one does
abbrev pub IsRunning : Option Listed → ℕ → ReadingParts → ReadingParts → Type 0
IsRunning None code old new = (code ≡ number_of Absent) × (new ≡ old)
IsRunning (Some reading) code old new = (code ≡ number_of Done) × IsReadingPut (Some reading) old new

-- ---- what is answered of a state; all stays as it was where it is refused

-- nothing is heard of an instant
abbrev pub IsUnheard : Code → InstantHeard → ReceiverParts → ReceiverParts → ReadingParts → ReadingParts → Type 0
IsUnheard code heard old new old_reading new_reading = (heard ≡ heard_code code) × (new ≡ old) × (new_reading ≡ old_reading)

-- instant t has come: it is heard, or no receiver keeps the state, or it is too late
abbrev pub AnswersInstant : ℕ → Bool → InstantHeard → ReceiverParts → ReceiverParts → ReadingParts → ReadingParts → Type 0
AnswersInstant t is_low heard old new old_reading new_reading =
    ((r : Receiver) → ArePartsOf r old → t ≤ latest_heard → HasHeard r t is_low heard new old_reading new_reading)
    × (IsNoReceiver old → IsUnheard State heard old new old_reading new_reading)
    × ((r : Receiver) → ArePartsOf r old → latest_heard < t → IsUnheard Late heard old new old_reading new_reading)

-- when it is to hear the line again
abbrev pub AnswersWake : ReceiverParts → Instant → Type 0
AnswersWake parts answer =
    ((r : Receiver) → ArePartsOf r parts → answer ≡ instant_of (wake_of (heard_by r)))
    × (IsNoReceiver parts → answer ≡ instant_refused State)

-- which reading runs at t
abbrev pub AnswersRunning : ReceiverParts → ℕ → ℕ → ReadingParts → ReadingParts → Type 0
AnswersRunning parts t code old new =
    ((r : Receiver) → ArePartsOf r parts → IsRunning (running_by (heard_by r) t) code old new)
    × (IsNoReceiver parts → (code ≡ number_of State) × (new ≡ old))
