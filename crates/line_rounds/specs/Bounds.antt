-- How long a round takes at most, where its last stretch begins, and how many pulses begin in it. (own)
-- The bounds follow from the longest reading and a follower's pull of 3,600: that long after its reading's end a round is over, or
-- with the last pull that began by then. No definition of a round, a reading or a run names the width of a pulse.
use Rattle.std.specs.Prelude.{ℕ, ◌+◌, ◌≤◌, Bool, nat_le, ◌&&◌, List, length, filter, All}
use Rattle.line_wave.specs.declared.Stretch.{Stretch}
use Rattle.line_wave.specs.Line.{line_of, IsWave}
use Rattle.line_wave.specs.Pulses.{AreSparse}
use Rattle.line_reading.specs.Reading.{reading_of}
use Rattle.line_rounds.specs.declared.Seat.{Seat}
use Rattle.line_rounds.specs.declared.Outcome.{Outcome}
use Rattle.line_rounds.specs.Round.{IsRound}

-- the longest reading of any line: a start of 4,700, 160 slots of 2,750, and a microsecond after each
abbrev pub longest_reading : ℕ
longest_reading = 444861

-- the longest round that no pull from outside makes longer: the longest reading, and then a low drive of 3,600
abbrev pub longest_round : ℕ
longest_round = 448461

-- the longest round with sparse pulses: one of 10,000 begins as that ends
abbrev pub longest_pulsed_round : ℕ
longest_pulsed_round = 458461

-- by which such a round is over, and a look for its next edge too: at most a start bit and its wait later, rounded up
abbrev pub over_by : ℕ
over_by = 470000

-- the pulses that begin from one instant to another
abbrev pub begun_within : ℕ → ℕ → List Stretch → List Stretch
begun_within begin end pulses = filter (λ p. nat_le begin p.from && nat_le p.from end) pulses

pub record RoundsAreShort : Type 0 where
  -- a reading of any line
  pub ends : (low : ℕ → Bool) (begin : ℕ) → (reading_of low begin).at ≤ begin + longest_reading
  -- after it, 3,600 of those who pull after a fall too early, and the pulls that began by then: one that begins later would have
  -- to touch another
  pub rests : (seats : List Seat) (begin : ℕ) (pulls : List Stretch) (o : Outcome) (bound : ℕ) → IsWave pulls → IsWave o.wave
      → IsRound seats begin pulls o → begin + longest_round ≤ bound → All (λ p. p.from ≤ begin + longest_round → p.to ≤ bound) pulls → o.rest ≤ bound
  -- so with a pulse of 10,000
  pub sparse : (seats : List Seat) (begin : ℕ) (pulses : List Stretch) (o : Outcome) → AreSparse pulses → IsWave o.wave
      → IsRound seats begin pulses o → o.rest ≤ begin + longest_pulsed_round
  -- whoever pulls, no stretch begins after the reading's last microsecond
  pub begins : (seats : List Seat) (begin : ℕ) (pulls : List Stretch) (o : Outcome) → IsWave o.wave
      → IsRound seats begin pulls o → All (λ s. s.from ≤ (reading_of (line_of o.wave) begin).until) o.wave
  -- pulses that are 25,000 apart
  pub few : (seats : List Seat) (begin : ℕ) (pulses : List Stretch) (o : Outcome) → AreSparse pulses → IsWave o.wave
      → IsRound seats begin pulses o → length (begun_within begin o.rest pulses) ≤ 19
