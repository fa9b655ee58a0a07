-- The line: the set of its low microseconds, its falls and its rises (CEC 4: the line is low where anybody
-- pulls it low, and high otherwise).
use Rattle.std.specs.Prelude.{◌≡◌, ℕ, ◌+◌, ◌-◌, ◌==◌, ◌<◌, ◌≤◌, Bool, false, not, nat_lt, nat_le, ◌&&◌, List, [], ◌∷◌}
use Rattle.std.specs.List.{filter, list_any}
use Rattle.line_wave.specs.declared.Stretch.{Stretch}

-- whether a line is low in a microsecond
abbrev pub Line : Type 0
Line = ℕ → Bool

-- a stretch is half open (own)
abbrev pub covers : Stretch → ℕ → Bool
covers s t = nat_le s.from t && nat_lt t s.to

-- the line that these stretches pull low (CEC 4)
abbrev pub line_of : List Stretch → Line
line_of stretches t = list_any (λ s. covers s t) stretches

-- the line was low just before t; before 0 it counts as high (own)
abbrev pub was_low : Line → ℕ → Bool
was_low low t = nat_lt 0 t && low (t - 1)

-- a low microsecond that is 0 or follows a high one (own)
abbrev pub is_fall : Line → ℕ → Bool
is_fall low t = low t && not (was_low low t)

-- a high microsecond after a low one (own)
abbrev pub is_rise : Line → ℕ → Bool
is_rise low t = not (low t) && was_low low t

-- stretches in order that neither overlap nor touch; each begins at `from` or later (own)
abbrev pub IsWaveFrom : ℕ → List Stretch → Type 0
IsWaveFrom from [] = Unit {0}
IsWaveFrom from (s ∷ ss) = (from ≤ s.from) × (s.from < s.to) × IsWaveFrom (s.to + 1) ss

abbrev pub IsWave : List Stretch → Type 0
IsWave ss = IsWaveFrom 0 ss

-- ---- laws

-- Just before the next microsecond a line is as it is in this one.
abbrev pub LinesWereAsTheyAre : Type 0
LinesWereAsTheyAre = (low : ℕ → Bool) (n : ℕ) → was_low low (n + 1) ≡ low n

-- The line of a wave falls where a stretch begins.
abbrev pub FallsOfWaves : Type 0
FallsOfWaves = (ss : List Stretch) (from t : ℕ) → IsWaveFrom from ss → is_fall (line_of ss) t ≡ list_any (λ s. s.from == t) ss

-- It rises where one ends.
abbrev pub RisesOfWaves : Type 0
RisesOfWaves = (ss : List Stretch) (from t : ℕ) → IsWaveFrom from ss → is_rise (line_of ss) t ≡ list_any (λ s. s.to == t) ss

-- Before the wave it is high.
abbrev pub QuietBeforeWaves : Type 0
QuietBeforeWaves = (ss : List Stretch) (from t : ℕ) → IsWaveFrom from ss → t < from → line_of ss t ≡ false

-- No stretch begins there.
abbrev pub NoneBeginBeforeWaves : Type 0
NoneBeginBeforeWaves = (ss : List Stretch) (from t : ℕ) → IsWaveFrom from ss → t < from → list_any (λ s. s.from == t) ss ≡ false

-- Those stretches of a wave that pass a test are a wave.
abbrev pub SomeAreWaves : Type 0
SomeAreWaves = (test : Stretch → Bool) (ss : List Stretch) → IsWave ss → IsWave (filter test ss)
