-- The wave of a line as it is recorded microsecond by microsecond. (own)
use Rattle.std.specs.Prelude.{◌≡◌, ℕ, ◌+◌, ◌<◌, ◌≤◌, Bool, true, false, ◌||◌, nat_le, List, [], ◌∷◌, Option, Some, None, is_some}
use Rattle.line_wave.specs.declared.Stretch.{Stretch}
use Rattle.line_wave.specs.Line.{IsWave, Line, is_fall, line_of, was_low}
use Rattle.line_rounds.specs.Machine.{IsReady, low_since, wave_after}

-- all of these end before an instant
abbrev pub EndBefore : ℕ → List Stretch → Type 0
EndBefore t [] = Unit {0}
EndBefore t (s ∷ ss) = (s.to < t) × EndBefore t ss

-- the line falls where each of these begins
abbrev pub AreFalls : Line → ℕ → List Stretch → Type 0
AreFalls low t [] = Unit {0}
AreFalls low t (s ∷ ss) = (s.from < t) × (is_fall low s.from ≡ true) × AreFalls low t ss

-- low since this instant, if at all
abbrev pub lows : Option ℕ → ℕ → Bool
lows None u = false
lows (Some from) u = nat_le from u

-- when the stretch began that is low still, or else this instant
abbrev pub begun : Option ℕ → ℕ → ℕ
begun None t = t
begun (Some from) t = from

-- the line falls where that stretch begins
abbrev pub IsBegun : Line → Option ℕ → ℕ → Type 0
IsBegun low None t = Unit {0}
IsBegun low (Some from) t = (from < t) × (is_fall low from ≡ true)

-- the line below t is this wave, and the stretch that is low still
pub record Records (low : Line) (t : ℕ) (wave : List Stretch) (since : Option ℕ) : Type 0 where
  pub same : (u : ℕ) → u < t → low u ≡ (line_of wave u || lows since u)
  pub order : IsWave wave
  pub ends : EndBefore (begun since t) wave
  pub falls : AreFalls low t wave
  pub begins : IsBegun low since t
  pub was : was_low low t ≡ is_some since

-- stretches that end before an instant are not low from it on
abbrev pub NoLine : Type 0
NoLine = (t u : ℕ) (ss : List Stretch) → EndBefore t ss → t ≤ u → line_of ss u ≡ false

-- a stretch may be added where the line rises
abbrev pub RecordIsReady : Type 0
RecordIsReady = (low : Line) (t : ℕ) (wave : List Stretch) (since : Option ℕ) → Records low t wave since → IsReady wave since t

-- what is recorded stays right from one microsecond to the next
abbrev pub RecordStep : Type 0
RecordStep = (low : Line) (t : ℕ) (wave : List Stretch) (since : Option ℕ) (b : Bool) → Records low t wave since → low t ≡ b → Records low (t + 1) (wave_after wave since t b) (low_since since t b)

-- while nothing was low, the record is empty
abbrev pub RecordFirst : Type 0
RecordFirst = (low : Line) (t : ℕ) → ((u : ℕ) → u < t → low u ≡ false) → Records low t [] None
