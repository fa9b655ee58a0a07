-- What a round does: who contends in it, so that arbitration picks among them (CEC 9), and what it leaves of each device.
use Rattle.std.specs.Prelude.{◌≡◌, ℕ, ◌==◌, nat_lt, Bool, true, false, not, ◌&&◌, ◌||◌, if◌then◌else◌, List, map, filter, Option, Some, None, is_some}
use Rattle.std.specs.List.{list_any}
use Rattle.line_frames.specs.Blocks.{frame_in}
use Rattle.line_rounds.specs.declared.Seat.{Seat}
use Rattle.line_rounds.specs.declared.Outcome.{Outcome}
use Rattle.line_rounds.specs.Round.{IsRound, fate_in, close_in}
use Rattle.line_rounds.specs.OneOutcome.{SameOutcome}
use Rattle.line_wave.specs.Line.{IsWave}
use Rattle.line_frames.specs.declared.Fate.{Fate}
use Rattle.device_features.specs.Kinds.{is_outside}
use Rattle.device_core.specs.State.{State, held_by}
use Rattle.device_core.specs.Place.{front_of, is_on_wire, after_sending, after_waiting}
use Rattle.device_core.specs.Effects.{after_frame}
use Rattle.room_net.specs.Start.{contends}
use Rattle.room_net.specs.State.{NetState, each_from}

-- ---- the seats of a round, by the devices' numbers

-- what a device sends in a round that begins at `begin`: those whose start instant that is contend
abbrev pub sent_in : ℕ → ℕ → State → Option (List ℕ)
sent_in rest begin d = if contends rest begin d then front_of d else None

-- an address below 15
abbrev pub is_address : Option ℕ → Bool
is_address None = false
is_address (Some address) = nat_lt address 15

-- it holds an address
abbrev pub holds_one : State → Bool
holds_one d = list_any is_address (held_by d)

-- A device on the wire acknowledges (CEC 6.1) and pulls low after a fall too early (CEC 7.4), but for one from outside that
-- holds no address and does not contend: what its firmware answers, pulls say (own).
abbrev pub answers : ℕ → ℕ → State → Bool
answers rest begin d = is_on_wire d && (not (is_outside d.kind) || (holds_one d || contends rest begin d))

abbrev pub seat_of : ℕ → ℕ → State → Seat
seat_of rest begin d = record { plugged = answers rest begin d; holds = held_by d; sends = sent_in rest begin d }

abbrev pub seats_of : NetState → ℕ → List Seat
seats_of s begin = map (seat_of s.rest begin) s.devices

-- ---- what a round does to a device

abbrev pub is_among : List ℕ → ℕ → Bool
is_among seats seat = list_any (λ other. other == seat) seats

-- who is not still sending follows a frame that was read whole
abbrev pub followed_unless : Bool → Option (List ℕ) → ℕ → State → State
followed_unless sends None at d = d
followed_unless true (Some frame) at d = d
followed_unless false (Some frame) at d = after_frame 16 d frame at

abbrev pub followed_in : Outcome → ℕ → State → State
followed_in o number d = followed_unless (is_among o.survivors.items number) (frame_in o.reading) (close_in o) d

-- Who contended learns what became of its frame; where a frame was sent by others, who did not has waited.
abbrev pub after_fate : Bool → Bool → Fate → ℕ → State → State
after_fate true others fate at d = after_sending 16 d fate at
after_fate false true fate at d = after_waiting d
after_fate false false fate at d = d

-- `own` where the device contends, `any` where some frame was sent
abbrev pub device_after : Bool → Bool → Outcome → ℕ → State → State
device_after own any o number d =
    if is_on_wire d then after_fate own any (fate_in o number) (close_in o) (followed_in o number d) else d

-- some device starts at `begin`
abbrev pub is_contended : ℕ → ℕ → List State → Bool
is_contended rest begin devices = list_any (contends rest begin) devices

-- a frame was sent: some device started at `begin`, or the round was read whole
abbrev pub is_sent : ℕ → ℕ → Outcome → List State → Bool
is_sent rest begin o devices = is_contended rest begin devices || is_some (frame_in o.reading)

abbrev pub devices_after : ℕ → ℕ → Outcome → List State → List State
devices_after rest begin o devices =
    each_from 0 (λ number d. device_after (contends rest begin d) (is_sent rest begin o devices) o number d) devices

-- The round takes the pulses that begin by its last low stretch's end: those that it had on its line, and
-- those that overlap or touch that stretch.
abbrev pub after_round : NetState → ℕ → Outcome → NetState
after_round s begin o = record s {
  devices = devices_after s.rest begin o s.devices;
  pulses = filter (λ p. nat_lt o.rest p.from) s.pulses;
  close = close_in o;
  rest = o.rest;
  heard = None;
}

-- The next round: it begins at `begin`, gives this outcome, and leaves that state.
pub record IsNextRound (before : NetState) (begin : ℕ) (o : Outcome) (after : NetState) : Type 0 where
  pub round : IsRound (seats_of before begin) begin before.pulses o
  pub after_is : after ≡ after_round before begin o

-- Whichever way the next round is found, it is the same, and leads to the same state.
abbrev pub OneStep : Type 0
OneStep = (before : NetState) (begin : ℕ) (o p : Outcome) (after other : NetState) → IsWave o.wave → IsWave p.wave
    → IsNextRound before begin o after → IsNextRound before begin p other → SameOutcome o p × (after ≡ other)
