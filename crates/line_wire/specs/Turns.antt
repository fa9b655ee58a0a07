-- A turn of a wire: it waits, takes the pull that begins, and hears a microsecond. (own)
use Rattle.std.specs.Prelude.{◌≡◌, ◌≢◌, ℕ, ◌+◌, ◌%◌, ◌==◌, ◌<◌, ◌≤◌, Bool, not, ◌&&◌, ◌||◌, if◌then◌else◌, List, ◌++◌, length, ◌⊎◌, Option, Some, None, IfSome}
use mathlib.Core.Bool.{beq}
use Rattle.line_wave.specs.declared.Stretch.{Stretch}
use Rattle.line_wave.specs.Line.{Line}
use Rattle.line_frames.specs.declared.Ending.{Ending}
use Rattle.line_reading.specs.declared.receiver.Told.{Told}
use Rattle.line_reading.specs.declared.receiver.Told.TheVariants.{Nothing, Last, Ended}
use Rattle.line_reading.specs.declared.sender.Sender.{Sender}
use Rattle.line_reading.specs.Hears.{heard_by, wake_of}
use Rattle.line_reading.specs.Reading.{End}
use Rattle.line_reading.specs.Sending.{destination}
use Rattle.line_rounds.specs.declared.Seat.{Seat}
use Rattle.line_rounds.specs.Machine.{is_short}
use Rattle.line_rounds.specs.Round.{ack_pull, short_pull}
use Rattle.line_wire.specs.Listening.{AllHeard}
use Rattle.line_wire.specs.declared.edge_wire.EdgeWire.{EdgeWire}
use Rattle.line_wire.specs.States.{acks_to, breaks_by}
use Rattle.line_wire.specs.Wire.{IsAt, bits_in}
use Rattle.line_wire.specs.Steps.{wakes_in}
use Rattle.line_wire.specs.Wired.{IsBegunWith, end_in, is_low_in}

-- some pulls have begun
abbrev pub IsBegun : EdgeWire → Type 0
IsBegun w = (past : List Stretch) × IsBegunWith past w

-- nobody changes what he does before an instant, where the senders do the same until another, and no pull begins before it
pub record IsWake (w : EdgeWire) (until : ℕ) (next : Option Stretch) (t : ℕ) : Type 0 where
  pub sooner : t ≤ until
  pub pull : (p : Stretch) → w.last ≡ Some p → w.time < p.to → t ≤ p.to
  pub holds : w.time < w.held → t ≤ w.held
  pub wakes : (n : ℕ) → wake_of (heard_by w.receiver) ≡ Some n → t ≤ n
  pub begins : IfSome next (λ p. t ≤ p.from)
  pub later : w.time ≤ until → ((n : ℕ) → wake_of (heard_by w.receiver) ≡ Some n → w.time ≤ n) → IfSome next (λ p. w.time ≤ p.from) → w.time ≤ t

-- the line stays as it is up to an instant
abbrev pub IsCalm : EdgeWire → ℕ → Line → Type 0
IsCalm w t low = (u : ℕ) → w.time ≤ u → u < t → low u ≡ is_low_in w

-- the next pull begins now, or later
abbrev pub Takes : EdgeWire → Option Stretch → EdgeWire → Type 0
Takes old next new =
    ((p : Stretch) × (next ≡ Some p) × (p.from ≡ old.time) × (new ≡ record old { last = Some p; begun = old.begun + 1 })) ⊎ ((new ≡ old) × IfSome next (λ p. old.time < p.from))

-- until when those who follow hold the line from the fall of a slot on, by what the senders are doing
abbrev pub acks_by : List Seat → List (Option Sender) → List Bool → ℕ → ℕ
acks_by seats senders bits t = if ((length bits + 1) % 10 == 0) && acks_to (destination bits) seats senders then t + ack_pull else 0

-- and after an ending
abbrev pub breaks_until : List Seat → List (Option Sender) → Ending → ℕ → ℕ → ℕ
breaks_until seats senders ending held t = if is_short ending && breaks_by seats senders then t + short_pull else held

abbrev pub ended_by : Told → ℕ → ℕ → Option End
ended_by (Last value ending) t until = Some (record { ending = ending; at = t; until = until })
ended_by (Ended ending) t until = Some (record { ending = ending; at = t; until = until })
ended_by _ t until = None

abbrev pub held_by : EdgeWire → Told → Bool → ℕ
held_by w Nothing falls = if falls then acks_by w.seats.items w.senders.items w.bits.items w.time else w.held
held_by w (Ended ending) falls = breaks_until w.seats.items w.senders.items ending w.held w.time
held_by w _ falls = w.held

-- with what a microsecond reported of the reading that runs
pub record Heeds (old : EdgeWire) (reported : Told) (falls : Bool) (until : ℕ) (new : EdgeWire) : Type 0 where
  pub bits : new.bits.items ≡ old.bits.items ++ bits_in reported
  pub ended : end_in new.ended ≡ ended_by reported old.time until
  pub held : new.held ≡ held_by old reported falls
  pub quiet : reported ≡ Nothing → new.senders.items ≡ old.senders.items
  pub each : reported ≢ Nothing → AllHeard reported old.time old.senders.items new.senders.items

-- once the reading has ended nothing of it changes
pub record KeepsOver (old new : EdgeWire) : Type 0 where
  pub senders : new.senders.items ≡ old.senders.items
  pub bits : new.bits.items ≡ old.bits.items
  pub ended : new.ended ≡ old.ended
  pub held : new.held ≡ old.held

-- something is told in the next microsecond: the round begins, the line changes, or the receiver wakes
abbrev pub is_told_in : EdgeWire → Bool → Bool → Bool
is_told_in w was is_low = (w.time == w.begin) || (not (beq is_low was) || wakes_in (wake_of (heard_by w.receiver)) w.time)

-- all was told with the next microsecond of a wire, as its receiver is told a line
abbrev pub IsToldNext : EdgeWire → EdgeWire → Line → Type 0
IsToldNext old new told = IsAt old.seats.items old.begin new.receiver new.senders.items new.bits.items (end_in new.ended) new.held told (old.time + 1)
