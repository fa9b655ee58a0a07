-- A round's line by itself, as a part of a longer one, and what is left of the pulses after it (own).
use Rattle.std.specs.Prelude.{◌≡◌, ℕ, ◌+◌, ◌<◌, ◌≤◌, true, List, All}
use Rattle.line_wave.specs.declared.Stretch.{Stretch}
use Rattle.line_wave.specs.Line.{IsWave}
use Rattle.line_reading.specs.Windows.{standard}
use Rattle.line_reading.specs.Readings.{Listed, Part, part_until, part_listed, IsLone}
use Rattle.line_reading.specs.Reading.{reported_by}
use Rattle.line_rounds.specs.declared.Seat.{Seat}
use Rattle.line_rounds.specs.declared.Outcome.{Outcome}
use Rattle.line_rounds.specs.Round.{IsRound}
use Rattle.line_rounds.specs.Contend.{AreFrames}
use Rattle.line_rounds.specs.Lasting.{is_begun}

-- an outcome's line as a part of a longer one, and its reading in a list of readings
abbrev pub part_of : Outcome → Part
part_of o = record { begin = o.reading.begin; rest = o.rest; wave = o.wave }

abbrev pub outcome_listed : Outcome → Listed
outcome_listed o = record { begin = o.reading.begin; reported = reported_by o.reading }

-- A round's line is read once, whatever pulls in order there are: it is high before the round, falls as it begins, is high from the rest on, and falls no
-- more once the reading is over; and that reading is the outcome's.
pub record RoundsAreLone : Type 0 where
  pub lone : (seats : List Seat) (begin : ℕ) (pulses : List Stretch) (o : Outcome) → AreFrames seats → IsWave pulses → IsWave o.wave
      → IsRound seats begin pulses o → is_begun seats begin pulses ≡ true → IsLone (part_of o)
  pub reported : (seats : List Seat) (begin : ℕ) (pulses : List Stretch) (o : Outcome) → IsRound seats begin pulses o → part_listed (part_of o) ≡ outcome_listed o
  -- its reading is over soon after the line is high, and by the close
  pub soon : (seats : List Seat) (begin : ℕ) (pulses : List Stretch) (o : Outcome) → IsWave pulses → IsWave o.wave
      → IsRound seats begin pulses o → is_begun seats begin pulses ≡ true → part_until (part_of o) ≤ o.rest + standard.start_total.most
  -- a pull that begins after the rest begins after the reading: what the round had on its line is over by the rest
  pub taken : (seats : List Seat) (begin : ℕ) (pulses : List Stretch) (o : Outcome) → IsWave pulses → IsWave o.wave → IsRound seats begin pulses o
      → All (λ p. begin ≤ p.from → o.rest < p.from → part_until (part_of o) < p.from) pulses
