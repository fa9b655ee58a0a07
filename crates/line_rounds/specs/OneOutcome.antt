-- A round has an outcome, and no second one (own).
use Rattle.std.specs.Prelude.{◌≡◌, ℕ, List}
use Rattle.line_wave.specs.declared.Stretch.{Stretch}
use Rattle.line_wave.specs.Line.{IsWave}
use Rattle.line_rounds.specs.declared.Seat.{Seat}
use Rattle.line_rounds.specs.declared.Outcome.{Outcome}
use Rattle.line_rounds.specs.Round.{IsRound}

-- two outcomes say the same: the reading, who was still sending, who was out, the rest and the wave
pub record SameOutcome (o p : Outcome) : Type 0 where
  pub begin : o.reading.begin ≡ p.reading.begin
  pub at : o.reading.at ≡ p.reading.at
  pub ending : o.reading.ending ≡ p.reading.ending
  pub bits : o.reading.bits.items ≡ p.reading.bits.items
  pub survivors : o.survivors.items ≡ p.survivors.items
  pub losers : o.losers.items ≡ p.losers.items
  pub rest : o.rest ≡ p.rest
  pub wave : o.wave ≡ p.wave

-- whichever way the outcome of a round is found, it is the same
abbrev pub OneOutcome : Type 0
OneOutcome = (seats : List Seat) (begin : ℕ) (pulses : List Stretch) (o p : Outcome) → IsWave o.wave → IsWave p.wave
    → IsRound seats begin pulses o → IsRound seats begin pulses p → SameOutcome o p

-- the outcome of a round, with its line as a wave
abbrev pub HasOutcome : List Seat → ℕ → List Stretch → Type 0
HasOutcome seats begin pulses = (o : Outcome) × IsWave o.wave × IsRound seats begin pulses o

-- whoever sends, and whatever pulls in order come, there is one
abbrev pub RoundsHaveOutcomes : Type 0
RoundsHaveOutcomes = (seats : List Seat) (begin : ℕ) (pulses : List Stretch) → IsWave pulses → HasOutcome seats begin pulses
