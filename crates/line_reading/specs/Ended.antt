-- The readings that have ended by an instant, as one who hears the line edge by edge reports them.
use Rattle.std.specs.Prelude.{◌≡◌, ℕ, ◌<◌, ◌≤◌, Bool, false, nat_le, List, ◌++◌, Option}
use Rattle.std.specs.List.{filter}
use Rattle.std.specs.Option.{option_to_list}
use Rattle.line_wave.specs.Line.{Line, is_fall}
use Rattle.line_reading.specs.Reading.{reading_of}
use Rattle.line_reading.specs.Readings.{Listed, readings_of}

abbrev pub has_ended : Line → ℕ → Listed → Bool
has_ended low t x = nat_le (reading_of low x.begin).at t

-- the readings that have ended by t: those of the list that are not open
abbrev pub ended_by : Line → ℕ → List Listed
ended_by low t = filter (has_ended low t) (readings_of low t)

-- The readings that have ended by an instant are the first of those of the line, however much later it is cut.
abbrev pub EndedAreFirst : Type 0
EndedAreFirst = (low : ℕ → Bool) (t u : ℕ) → t ≤ u → (zs : List Listed) × (readings_of low u ≡ ended_by low t ++ zs)

-- From one edge to the next at most one reading ends, at that next edge too; and where no edge follows, one at most
-- is left, ended or open.
pub record EndOneByOne : Type 0 where
  pub edge : (low : ℕ → Bool) (t u : ℕ) → t ≤ u → ((v : ℕ) → t < v → v < u → is_fall low v ≡ false)
      → (x : Option Listed) × (ended_by low u ≡ ended_by low t ++ option_to_list x)
  pub finish : (low : ℕ → Bool) (t u : ℕ) → t ≤ u → ((v : ℕ) → t < v → v ≤ u → is_fall low v ≡ false)
      → (x : Option Listed) × (readings_of low u ≡ ended_by low t ++ option_to_list x)
