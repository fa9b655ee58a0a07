-- A wire that is one receiver, its senders, an instant up to which it is held, and the reading's bits and ending: where
-- it stands on a round's line. (own)
use Rattle.std.specs.Prelude.{◌≡◌, ◌≢◌, ℕ, ◌+◌, ◌-◌, ◌<◌, ◌≤◌, Bool, true, false, ◌&&◌, if◌then◌else◌, List, [], ◌∷◌, Option, Some, None}
use Rattle.std.specs.List.{list_any}
use Rattle.line_wave.specs.declared.Stretch.{Stretch}
use Rattle.line_wave.specs.Line.{Line, was_low}
use Rattle.line_reading.specs.declared.receiver.Receiver.{Receiver}
use Rattle.line_reading.specs.declared.sender.Sender.{Sender}
use Rattle.line_reading.specs.declared.receiver.Told.{Told}
use Rattle.line_reading.specs.declared.receiver.Told.TheVariants.{Nothing, Bit, Last, Ended}
use Rattle.line_frames.specs.declared.Ending.{Ending}
use Rattle.line_reading.specs.Kept.{reported_at}
use Rattle.line_reading.specs.Hears.{heard_by, wake_of, hear_in, reported_so, due_in}
use Rattle.line_reading.specs.Reading.{End, reading_of, bits_of}
use Rattle.line_reading.specs.Follows.{StoodBefore, StandsOn}
use Rattle.line_rounds.specs.declared.Seat.{Seat}
use Rattle.line_rounds.specs.Round.{short_pull}
use Rattle.line_rounds.specs.Machine.{breaks_after, is_short}
use Rattle.line_wire.specs.Listening.{IsReadOnce, AreSenders, AreSending, AllHeard}
use Rattle.line_wire.specs.Pulls.{pull_in, held_in, IsHeld}

-- what the wire has of the reading: all while it runs is the receiver's; then its bits and its ending are kept
abbrev pub IsRead : List Seat → ℕ → Receiver → List Bool → Option End → ℕ → Line → ℕ → Type 0
IsRead seats begin r bits None held low t =
    (t ≤ (reading_of low begin).at) × (bits ≡ r.bits.items) × (held ≡ held_in seats r.place r.fall r.bits.items)
IsRead seats begin r bits (Some end) held low t =
    ((reading_of low begin).at < t) × (end ≡ record { ending = (reading_of low begin).ending; at = (reading_of low begin).at; until = (reading_of low begin).until })
    × (bits ≡ bits_of (reading_of low begin)) × ((u : ℕ) → t ≤ u → IsHeld seats low begin u held)

-- all was told before t
pub record IsAt (seats : List Seat) (begin : ℕ) (r : Receiver) (senders : List (Option Sender)) (bits : List Bool) (ended : Option End) (held : ℕ) (low : Line) (t : ℕ) : Type 0 where
  pub from : begin < t
  pub once : IsReadOnce low begin
  pub stood : StoodBefore r low t
  pub whose : AreSenders seats begin senders
  pub sending : AreSending low begin t senders
  pub read : IsRead seats begin r bits ended held low t

abbrev pub until_by : Receiver → Option End → ℕ → ℕ
until_by r None t = if due_in r.place r.begin r.fall t then t - 1 else t
until_by r (Some end) t = end.until

-- ---- a tick

abbrev pub goes_on : Told → Bool
goes_on Nothing = true
goes_on (Bit slot value) = true
goes_on _ = false

abbrev pub bits_in : Told → List Bool
bits_in (Bit slot value) = value ∷ []
bits_in (Last value ending) = value ∷ []
bits_in _ = []

-- what a tick at t told, and who heard it: the receiver by its contract, each sender by its own
pub record Ticked (seats : List Seat) (begin : ℕ) (r new : Receiver) (reported : Told) (senders news : List (Option Sender)) (low : Line) (t : ℕ) : Type 0 where
  pub stands : StandsOn new low t
  pub reported_is : reported ≡ reported_at low t
  pub heard : reported_so (heard_by new) reported ≡ hear_in t (was_low low t) (low t) (heard_by r)
  pub whose : AreSenders seats begin news
  pub quiet : reported ≡ Nothing → news ≡ senders
  pub each : reported ≢ Nothing → AllHeard reported t senders news

abbrev pub ends_as : Told → Option Ending
ends_as (Last value ending) = Some ending
ends_as (Ended ending) = Some ending
ends_as _ = None

-- until when those who follow hold the line then: after a fall too early everybody who is plugged in and does not send (CEC 7.4)
abbrev pub held_from : List Seat → List Bool → Told → ℕ → ℕ → ℕ
held_from seats bits (Ended ending) held t = if is_short ending && list_any (breaks_after bits) seats then t + short_pull else held
held_from seats bits _ held t = held

-- ---- between two turns

-- nothing that the wire waits for comes from t on before w
pub record IsQuiet (r : Receiver) (senders : List (Option Sender)) (last : Option Stretch) (held t w : ℕ) : Type 0 where
  pub sends : (u : ℕ) → t ≤ u → u < w → list_any (pull_in u) senders ≡ list_any (pull_in t) senders
  pub pull : (p : Stretch) → last ≡ Some p → t < p.to → w ≤ p.to
  pub holds : t < held → w ≤ held
  pub wakes : (n : ℕ) → wake_of (heard_by r) ≡ Some n → w ≤ n

-- as long as the line stays as it was, so does what the receiver is told
abbrev pub ToldSo : Line → Line → Bool → ℕ → ℕ → Type 0
ToldSo low told was t w = (u : ℕ) → t ≤ u → u < w → ((v : ℕ) → t ≤ v → v < u + 1 → low v ≡ was_low low t) → told u ≡ was
