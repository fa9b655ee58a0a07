-- A round lasts: it ends, and the line comes to rest, after its begin (own).
use Rattle.std.specs.Prelude.{◌≡◌, ℕ, ◌==◌, ◌<◌, Bool, true, ◌||◌, List, is_some}
use Rattle.std.specs.List.{list_any}
use Rattle.line_wave.specs.declared.Stretch.{Stretch}
use Rattle.line_wave.specs.Line.{IsWave}
use Rattle.line_rounds.specs.declared.Seat.{Seat}
use Rattle.line_rounds.specs.declared.Outcome.{Outcome}
use Rattle.line_rounds.specs.Round.{IsRound}

-- somebody pulls at once: a seat sends a frame, or a pulse begins there
abbrev pub is_begun : List Seat → ℕ → List Stretch → Bool
is_begun seats begin pulses = list_any (λ s. is_some s.sends) seats || list_any (λ p. p.from == begin) pulses

-- a round in which somebody pulls at once ends later, and its last low stretch too
abbrev pub RoundsLast : Type 0
RoundsLast = (seats : List Seat) (begin : ℕ) (pulses : List Stretch) (o : Outcome) → IsWave pulses → IsWave o.wave → IsRound seats begin pulses o
    → is_begun seats begin pulses ≡ true → (begin < o.rest) × (begin < o.reading.at)
