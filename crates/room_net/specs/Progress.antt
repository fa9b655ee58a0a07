-- How a run goes on: each round begins the shortest signal free time after the last low stretch or takes a new pulse, and it
-- ends soon (own).
use Rattle.std.specs.Prelude.{◌≡◌, ℕ, ◌+◌, ◌≤◌, ◌<◌, ◌⊎◌, max, length, map, true, List, Some, is_some, All}
use Rattle.std.specs.List.{list_any}
use Rattle.line_wave.specs.declared.Stretch.{Stretch}
use Rattle.line_wave.specs.Line.{IsWave}
use Rattle.line_wave.specs.Bounds.{latest_instant}
use Rattle.line_frames.specs.FreeTime.{free_time_of}
use Rattle.line_frames.specs.declared.free_time.FreeTime.TheVariants.{Retry}
use Rattle.line_rounds.specs.declared.Seat.{Seat}
use Rattle.line_rounds.specs.declared.Outcome.{Outcome}
use Rattle.line_rounds.specs.Round.{IsRound}
use Rattle.line_rounds.specs.Bounds.{longest_pulsed_round, longest_round}
use Rattle.line_rounds.specs.Lasting.{is_begun}
use Rattle.device_core.specs.State.{State}
use Rattle.room_net.specs.Start.{least_start}
use Rattle.room_net.specs.State.{NetState, next_start}
use Rattle.room_net.specs.Step.{after_round, seat_of, seats_of}

-- A round that begins at `begin` and leads from one state to another
pub record IsProgress (before : NetState) (begin : ℕ) (after : NetState) : Type 0 where
  -- begins after the line was high for the shortest signal free time (CEC 9.1), or takes a pulse,
  pub apart : (before.rest + free_time_of Retry ≤ begin) ⊎ (length after.pulses < length before.pulses)
  -- adds no pulse,
  pub kept : length after.pulses ≤ length before.pulses
  -- not before the line was high,
  pub later : before.rest ≤ begin
  -- pulls the line low once it has begun,
  pub low : begin < after.rest
  -- and closes as long after that as the longest round with sparse pulses at most, or by the latest instant;
  pub closed : after.close ≤ max latest_instant (begin + longest_pulsed_round)
  -- and by any instant by which its reading is over, and a follower's pull, and those pulls have ended that begin by then.
  pub soon : (bound : ℕ) → begin + longest_round ≤ bound → All (λ p. p.from ≤ begin + longest_round → p.to ≤ bound) before.pulses → after.close ≤ bound

-- ---- what begins a round

-- somebody sends at the least start, the shortest signal free time (CEC 9.1) after the rest
pub record IsLed (rest t : ℕ) (xs : List State) : Type 0 where
  pub late : rest + free_time_of Retry ≤ t
  pub sends : list_any (λ (s : Seat). is_some s.sends) (map (seat_of rest t) xs) ≡ true

abbrev pub LeastIsLed : Type 0
LeastIsLed = (rest t : ℕ) (xs : List State) → least_start rest xs ≡ Some t → IsLed rest t xs

-- a round that begins at the next start is begun by who sends, or by a pulse
abbrev pub RoundsAreBegun : Type 0
RoundsAreBegun = (s : NetState) (begin : ℕ) → next_start s ≡ Some begin → is_begun (seats_of s begin) begin s.pulses ≡ true

-- ---- and how far it goes

-- the pulses come after the last low stretch
abbrev pub ComeLater : ℕ → List Stretch → Type 0
ComeLater rest pulses = All (λ p. rest ≤ p.from) pulses

-- the round comes later, pulls, and takes what it had
pub record IsGoing (before : NetState) (begin : ℕ) (after : NetState) : Type 0 where
  pub apart : (before.rest + free_time_of Retry ≤ begin) ⊎ (length after.pulses < length before.pulses)
  pub kept : length after.pulses ≤ length before.pulses
  pub later : before.rest ≤ begin
  pub low : begin < after.rest

abbrev pub RoundsGoOn : Type 0
RoundsGoOn = (s : NetState) (begin : ℕ) (o : Outcome) → IsWave s.pulses → ComeLater s.rest s.pulses → next_start s ≡ Some begin
    → IsWave o.wave → IsRound (seats_of s begin) begin s.pulses o → IsGoing s begin (after_round s begin o)
