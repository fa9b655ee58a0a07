-- When a round's line is high. (own)
use Rattle.std.specs.Prelude.{◌≡◌, ℕ, ◌+◌, ◌<◌, ◌≤◌, true, false, List, ◌⊎◌}
use Rattle.line_wave.specs.declared.Stretch.{Stretch}
use Rattle.line_wave.specs.Line.{Line, covers, is_fall, was_low}
use Rattle.line_wave.specs.Pulses.{AreSparse}
use Rattle.line_reading.specs.Reading.{reading_of}
use Rattle.line_rounds.specs.declared.Seat.{Seat}
use Rattle.line_rounds.specs.Round.{IsRoundLine}
use Rattle.line_rounds.specs.Elements.{In}

-- it is high before the round begins
abbrev pub HighBefore : Type 0
HighBefore = (seats : List Seat) (begin : ℕ) (pulses : List Stretch) (low : Line) → IsRoundLine seats begin pulses low → (u : ℕ) → u < begin → low u ≡ false

-- after the reading's last microsecond it falls no more
abbrev pub NoFallAfter : Type 0
NoFallAfter = (seats : List Seat) (begin : ℕ) (pulses : List Stretch) (low : Line) → IsRoundLine seats begin pulses low → (u : ℕ) → (reading_of low begin).until < u → is_fall low u ≡ false

-- a pulse that lasts at u, of whose begin this is so
abbrev pub PulseOver : List Stretch → ℕ → (ℕ → Type 0) → Type 0
PulseOver pulses u P = (p : Stretch) × In p pulses × (covers p u ≡ true) × P p.from

-- 3,600 after the ending only a pulse pulls: one that the round took, or one that touches a low line
abbrev pub PulseOnly : Type 0
PulseOnly = (seats : List Seat) (begin : ℕ) (pulses : List Stretch) (low : Line) → IsRoundLine seats begin pulses low
    → (u : ℕ) → (reading_of low begin).at + 3600 ≤ u → low u ≡ true → PulseOver pulses u (λ from. (from ≤ (reading_of low begin).until) ⊎ (was_low low u ≡ true))

-- with sparse pulses it is high from 13,600 after the ending on
abbrev pub HighSparse : Type 0
HighSparse = (seats : List Seat) (begin : ℕ) (pulses : List Stretch) (low : Line) → IsRoundLine seats begin pulses low → AreSparse pulses
    → (u : ℕ) → (reading_of low begin).at + 13600 ≤ u → low u ≡ false
