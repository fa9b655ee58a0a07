-- Which pulses a round takes (own): those that are on its line.
use Rattle.std.specs.Prelude.{◌≡◌, ℕ, ◌<◌, ◌≤◌, true, false, All}
use Rattle.line_wave.specs.declared.Stretch.{Stretch}
use Rattle.line_wave.specs.Line.{Line, line_of, IsWave}
use Rattle.line_rounds.specs.declared.Outcome.{Outcome}
use Rattle.room_net.specs.State.{NetState}
use Rattle.room_net.specs.Framed.{AreFramed}
use Rattle.room_net.specs.Line.{GoesFrom}

-- the line is low as long as the pulse is
abbrev pub IsOn : Line → Stretch → Type 0
IsOn low p = (t : ℕ) → p.from ≤ t → t < p.to → low t ≡ true

-- the line is high from where the pulse begins
abbrev pub IsAfter : Line → Stretch → Type 0
IsAfter low p = (t : ℕ) → p.from ≤ t → low t ≡ false

-- Those that a round drops, which begin by its rest, are on its line, whole; those that it leaves begin after that line.
pub record RoundsTakePulses : Type 0 where
  pub taken : (s : NetState) (begin : ℕ) (o : Outcome) → IsWave s.pulses → GoesFrom s begin o
      → All (λ p. p.from ≤ o.rest → IsOn (line_of o.wave) p) s.pulses
  pub left : (s : NetState) (begin : ℕ) (o : Outcome) → IsWave s.pulses → AreFramed s → GoesFrom s begin o
      → All (λ p. o.rest < p.from → IsAfter (line_of o.wave) p) s.pulses
