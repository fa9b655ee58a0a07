-- What is known of a reading before an instant depends on the line before it alone.
use Rattle.std.specs.Prelude.{◌≡◌, ℕ, ◌<◌, Bool}
use Rattle.line_wave.specs.Line.{Line}
use Rattle.line_reading.specs.Reading.{known_at, reading_of}

-- the lines are one before t
abbrev pub Agree : ℕ → Line → Line → Type 0
Agree t p q = (u : ℕ) → u < t → p u ≡ q u

-- lines that are one before t are read alike before t
abbrev pub ReadingsAreCausal : Type 0
ReadingsAreCausal = (t : ℕ) (low other : ℕ → Bool) (begin : ℕ) → ((u : ℕ) → u < t → low u ≡ other u) → known_at t (reading_of low begin) ≡ known_at t (reading_of other begin)
