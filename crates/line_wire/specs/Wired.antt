-- A wire of one receiver and its senders that stands in a round. (own)
use Rattle.std.specs.Prelude.{◌≡◌, ℕ, ◌+◌, ◌-◌, ◌<◌, ◌≤◌, Bool, true, false, not, slice_get, nat_le, nat_lt, ◌&&◌, ◌||◌, List, [], ◌++◌, length, Option, Some, None, is_some, All, take, drop}
use Rattle.std.specs.List.{list_any}
use Rattle.std.specs.Option.{option_to_list}
use Rattle.line_wave.specs.declared.Stretch.{Stretch}
use Rattle.line_wave.specs.declared.Edge.{Edge}
use Rattle.line_wave.specs.Sender.{first_slot}
use Rattle.line_wave.specs.Line.{Line, line_of, was_low, is_fall, IsWave}
use Rattle.line_wave.specs.Bounds.{latest_begin, latest_heard}
use Rattle.line_reading.specs.declared.receiver.Receiver.{Receiver}
use Rattle.line_reading.specs.declared.sender.Sender.{Sender}
use Rattle.line_reading.specs.Follows.{StandsOn}
use Rattle.line_reading.specs.Hears.{heard_by, rest}
use Rattle.line_reading.specs.Reading.{End}
use Rattle.line_reading.specs.Sending.{SenderStood}
use Rattle.line_rounds.specs.declared.Seat.{Seat}
use Rattle.line_rounds.specs.declared.Outcome.{Outcome}
use Rattle.line_wire.specs.declared.reading.Ended.{Ended}
use Rattle.line_rounds.specs.Edges.{IsNextEdge}
use Rattle.line_rounds.specs.Machine.{AreSentWell}
use Rattle.line_rounds.specs.Round.{IsRoundLine, IsRound}
use Rattle.line_wire.specs.Listening.{AreBegun, IsIdle}
use Rattle.line_wire.specs.declared.edge_wire.EdgeWire.{EdgeWire}
use Rattle.line_wave.specs.Pulls.{EndsInTime}
use Rattle.line_wire.specs.Line.{HaveBegun}
use Rattle.line_wire.specs.Pulls.{StandIn, pull_in, low_in}
use Rattle.line_wire.specs.Told.{told_of}
use Rattle.line_wire.specs.Wire.{IsAt, until_by}

abbrev pub end_of : Ended → End
end_of e = record { ending = e.ending; at = e.at; until = e.until }

abbrev pub end_in : Option Ended → Option End
end_in None = None
end_in (Some e) = Some (end_of e)

abbrev pub is_low_in : EdgeWire → Bool
is_low_in w = is_some w.recorder.low_since

-- somebody pulls in the next microsecond
abbrev pub pulls_in : EdgeWire → Bool
pulls_in w = low_in w.senders.items w.last (until_by w.receiver (end_in w.ended) w.time) w.held (is_low_in w) w.time

-- where the senders stand is kept, and what they do for as long as it lasts
pub record IsKept (w : EdgeWire) : Type 0 where
  pub low : (t : ℕ) → w.time ≤ t → t < w.pull.until → list_any (pull_in t) w.senders.items ≡ nat_lt t w.pull.rise
  pub near : w.pull.until ≤ w.time + first_slot
  pub places : StandIn w.places w.senders.items

-- ---- the line so far

-- it is low from an instant on, or not
abbrev pub lows : Option ℕ → ℕ → Bool
lows None u = false
lows (Some from) u = nat_le from u

-- where the stretch begins that is low still, or the next one may
abbrev pub begun_by : Option ℕ → ℕ → ℕ
begun_by None t = t
begun_by (Some from) t = from

abbrev pub FallsThere : Line → ℕ → Option ℕ → Type 0
FallsThere low t None = Unit {0}
FallsThere low t (Some from) = (from < t) × (is_fall low from ≡ true)

-- it is this wave, and the stretch that is low still
pub record Records (low : Line) (t : ℕ) (wave : List Stretch) (since : Option ℕ) : Type 0 where
  pub same : (u : ℕ) → u < t → low u ≡ (line_of wave u || lows since u)
  pub order : IsWave wave
  pub ends : All (λ s. s.to < begun_by since t) wave
  pub falls : All (λ s. is_fall low s.from ≡ true) wave
  pub begins : FallsThere low t since
  pub was : was_low low t ≡ is_some since

-- ---- where a wire stands

-- a fact of each line that the round can have, with the pulls that have begun and any that begin at t or later
abbrev pub EachLine : List Seat → ℕ → List Stretch → ℕ → ((ℕ → Bool) → Type 0) → Type 0
EachLine seats begin past t P = (later : List Stretch) (low : ℕ → Bool) → IsWave (past ++ later) → All (λ p. t ≤ p.from) later → IsRoundLine seats begin (past ++ later) low → P low

abbrev pub EachOf : List Stretch → EdgeWire → ((ℕ → Bool) → Type 0) → Type 0
EachOf past w P = EachLine w.seats.items w.begin past w.time P

-- before the round's first microsecond
pub record IsFresh (w : EdgeWire) : Type 0 where
  pub heard : heard_by w.receiver ≡ rest
  pub level : (w.receiver.was_low ≡ false) × (w.receiver.is_low ≡ false)
  pub senders : AreBegun w.seats.items w.begin w.senders.items
  pub bits : w.bits.items ≡ []
  pub ended : w.ended ≡ None
  pub held : w.held ≡ 0
  pub wave : (w.recorder.wave ≡ []) × (w.recorder.low_since ≡ None)
  pub silent : StandsOn w.receiver (λ u. false) w.begin

-- after it, as its receiver is told a line
abbrev pub IsToldOf : EdgeWire → Line → Type 0
IsToldOf w told = IsAt w.seats.items w.begin w.receiver w.senders.items w.bits.items (end_in w.ended) w.held told w.time

-- and on the line
pub record StandsOnLine (w : EdgeWire) (low : Line) : Type 0 where
  pub at : IsToldOf w (told_of low w.begin)
  pub records : Records low w.time w.recorder.wave w.recorder.low_since

-- These pulls have begun in the round. This is asked for by calls and is no invariant of the type: it speaks of every line that
-- the round can still have, and a caller has it from the call before, with no test.
pub record IsBegunWith (past : List Stretch) (w : EdgeWire) : Type 0 where
  pub early : w.begin ≤ latest_begin
  pub from : w.begin ≤ w.time
  pub near : w.time ≤ latest_heard
  pub sent : AreSentWell w.seats.items
  pub pulls : HaveBegun w.begin past w.last w.time
  pub wave : IsWave past
  pub ends : All EndsInTime past
  pub count : w.begun ≡ length past
  pub kept : IsKept w
  pub fresh : w.time ≡ w.begin → IsFresh w
  pub level : w.receiver.is_low ≡ w.receiver.was_low
  pub stands : w.begin < w.time → EachOf past w (StandsOnLine w)

-- of the same round
pub record SameRound (old new : EdgeWire) : Type 0 where
  pub seats : new.seats.items ≡ old.seats.items
  pub begin : new.begin ≡ old.begin

-- ---- pulls that come

-- these pulls begin at an instant or later, after those before
pub record Follow (past coming : List Stretch) (t : ℕ) : Type 0 where
  pub wave : IsWave (past ++ coming)
  pub ends : All EndsInTime coming
  pub late : All (λ p. t ≤ p.from) coming

-- the next pull does
abbrev pub IsNext : List Stretch → ℕ → Option Stretch → Type 0
IsNext past t next = Follow past (option_to_list next) t

-- the pulls of a round, of which those have begun
pub record ArePulls (past pulls : List Stretch) (w : EdgeWire) : Type 0 where
  pub wave : IsWave pulls
  pub ends : All EndsInTime pulls
  pub begun : past ≡ take (length past) pulls
  pub later : All (λ p. w.time ≤ p.from) (drop (length past) pulls)

-- ---- the next edge

-- Of each line that the round can have with these pulls, and any that begin at t or later
abbrev pub EachComing : List Stretch → List Stretch → EdgeWire → ℕ → ((ℕ → Bool) → Type 0) → Type 0
EachComing past coming w t P =
    (later : List Stretch) (low : ℕ → Bool) → IsWave (past ++ (coming ++ later)) → All (λ p. t ≤ p.from) later → IsRoundLine w.seats.items w.begin (past ++ (coming ++ later)) low → P low

-- Of those that come so many have begun, and the edge is the next edge, whatever pulls begin later.
pub record Found (past coming : List Stretch) (old new : EdgeWire) (edge : Option Edge) : Type 0 where
  pub more : old.begun ≤ new.begun
  pub few : new.begun ≤ old.begun + length coming
  pub begun : IsBegunWith (past ++ take (new.begun - old.begun) coming) new
  pub left : All (λ p. new.time ≤ p.from) (drop (new.begun - old.begun) coming)
  pub edge_is : EachComing past coming old new.time (λ low. IsNextEdge low old.time edge)

-- Of each line of the round with these pulls, the edge is the next edge
abbrev pub NextEdges : List Stretch → EdgeWire → Option Edge → Type 0
NextEdges pulls old edge = (low : ℕ → Bool) → IsRoundLine old.seats.items old.begin pulls low → IsNextEdge low old.time edge

-- the reading has ended, and nobody pulls any more
abbrev pub is_silent_in : EdgeWire → Bool
is_silent_in w = is_some w.ended && (not (is_low_in w) && not (pulls_in w))

-- ---- the end

-- The outcome is the round's, with the pulls that have begun and whatever pulls begin later
abbrev pub IsRoundOf : List Stretch → EdgeWire → Outcome → Type 0
IsRoundOf past w o = (later : List Stretch) → IsWave (past ++ later) → All (λ p. w.time ≤ p.from) later → IsRound w.seats.items w.begin (past ++ later) o

-- ---- who hears the line

abbrev pub AreIdle : EdgeWire → Type 0
AreIdle w = IsIdle w.receiver

-- Before the first edge a receiver stands on the line that is never low; once the line is heard, on it by the end of the
-- last microsecond that was heard, where the line is low as the round begins.
pub record IsReceiverIn (past : List Stretch) (w : EdgeWire) (r : Receiver) : Type 0 where
  pub before : w.time ≡ w.begin → StandsOn r (λ u. false) w.begin
  pub stands : w.begin < w.time → EachOf past w (λ low. low w.begin ≡ true → StandsOn r low (w.time - 1))

-- A seat's sender sends the seat's frame, and goes on, is out or has stopped by what was heard of the line so far.
pub record IsSenderIn (past : List Stretch) (w : EdgeWire) (seat : ℕ) (x : Sender) : Type 0 where
  pub whose : (s : Seat) → slice_get w.seats.items seat ≡ Some s → (s.sends ≡ Some x.frame) × (x.begin ≡ w.begin)
  pub stands : w.begin < w.time → EachOf past w (λ low. low w.begin ≡ true → SenderStood x low w.time)

abbrev pub SendsNothing : EdgeWire → ℕ → Type 0
SendsNothing w seat = (s : Seat) → slice_get w.seats.items seat ≡ Some s → s.sends ≡ None
