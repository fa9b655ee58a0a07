-- Sparse pulses, and what is wrong with a list of stretches that is none. The limits are this profile's own.
use Rattle.std.specs.Prelude.{◌≡◌, ℕ, ◌+◌, ◌<◌, ◌≤◌, nat_lt, nat_le, ◌&&◌, ◌↔◌, if◌then◌else◌, List, [], ◌∷◌, length, Option, Some, None, All}
use Rattle.line_wave.specs.declared.Stretch.{Stretch}
use Rattle.line_wave.specs.declared.PulsesError.{PulsesError}
use Rattle.line_wave.specs.declared.PulsesError.TheVariants.{Width, Close, Order, TooMany}
use Rattle.line_wave.specs.Line.{IsWave}
use Rattle.line_wave.specs.Bounds.{most_pulses}

-- 1 to 10,000 microseconds
abbrev pub IsNarrow : Stretch → Type 0
IsNarrow s = (s.from < s.to) × (s.to ≤ s.from + 10000)

-- each begins at least 25,000 after the end of the one before
abbrev pub AreFarApart : List Stretch → Type 0
AreFarApart [] = Unit {0}
AreFarApart (a ∷ []) = Unit {0}
AreFarApart (a ∷ b ∷ ss) = (a.to + 25000 ≤ b.from) × AreFarApart (b ∷ ss)

pub record AreSparse (ss : List Stretch) : Type 0 where
  pub few : length ss ≤ most_pulses
  pub narrow : All IsNarrow ss
  pub far : AreFarApart ss

-- what is wrong with a stretch after one that ends at `end`, if there is one
abbrev pub gap_fault : Option ℕ → Stretch → Option PulsesError
gap_fault None s = None
gap_fault (Some end) s =
    if nat_lt s.from end then Some Order else if nat_lt s.from (end + 25000) then Some Close else None

abbrev pub stretch_fault : Option ℕ → Stretch → Option PulsesError
stretch_fault before s =
    if nat_lt s.from s.to && nat_le s.to (s.from + 10000) then gap_fault before s else Some Width

abbrev pub first_of : Option PulsesError → Option PulsesError → Option PulsesError
first_of None next = next
first_of (Some fault) next = Some fault

-- the first fault, stretch by stretch
abbrev pub first_fault : Option ℕ → List Stretch → Option PulsesError
first_fault before [] = None
first_fault before (s ∷ ss) = first_of (stretch_fault before s) (first_fault (Some s.to) ss)

abbrev pub pulses_fault : List Stretch → Option PulsesError
pulses_fault ss = if nat_lt most_pulses (length ss) then Some TooMany else first_fault None ss

-- no fault is found exactly in sparse pulses
abbrev pub FaultlessAreSparse : Type 0
FaultlessAreSparse = (ss : List Stretch) → (pulses_fault ss ≡ None) ↔ AreSparse ss

-- sparse pulses are pulls in order
abbrev pub SparseAreWaves : Type 0
SparseAreWaves = (ss : List Stretch) → AreSparse ss → IsWave ss
