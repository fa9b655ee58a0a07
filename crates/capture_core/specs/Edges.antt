-- The edges of a captured line, and the line that they report (own).
use Rattle.std.specs.Prelude.{◌≡◌, ℕ, ◌+◌, ◌<◌, ◌≤◌, Bool, true, false, not, nat_lt, if◌then◌else◌, List, [], ◌∷◌, ◌++◌, Option, IfSome}
use Rattle.std.specs.Option.{option_to_list}
use Rattle.line_wave.specs.declared.Edge.{Edge}
use Rattle.line_wave.specs.declared.Stretch.{Stretch}
use Rattle.line_wave.specs.Line.{Line, IsWaveFrom, line_of}
use Rattle.line_wave.specs.Bounds.{latest_instant}

-- the line is low from each fall to the next rise
abbrev pub level_at : Bool → List Edge → ℕ → Bool
level_at is_low [] u = is_low
level_at is_low (e ∷ es) u = if nat_lt u e.at then is_low else level_at e.low es u

-- before the first fall the line is high
abbrev pub line_of_edges : List Edge → Line
line_of_edges es = level_at false es

-- each edge turns the line, later than the one before it; the first one comes at `from` or later
abbrev pub AreInTurn : Bool → ℕ → List Edge → Type 0
AreInTurn is_low from [] = Unit {0}
AreInTurn is_low from (e ∷ es) = (e.low ≡ not is_low) × (from ≤ e.at) × AreInTurn e.low (e.at + 1) es

-- no edge comes after the end
abbrev pub EndBy : ℕ → List Edge → Type 0
EndBy end [] = Unit {0}
EndBy end (e ∷ es) = (e.at ≤ end) × EndBy end es

-- a capture: its edges, and the instant with which it ends, in microseconds
pub record Captured : Type 0 where
  pub edges : List Edge
  pub end : ℕ

-- edges in turn from a fall on, up to an end within 2,000,000,000,000 microseconds (23 days)
pub record IsCapture (edges : List Edge) (end : ℕ) : Type 0 where
  pub turn : AreInTurn false 0 edges
  pub ends : EndBy end edges
  pub early : end ≤ latest_instant

-- no stretch goes past the end
abbrev pub EndsBy : ℕ → List Stretch → Type 0
EndsBy end [] = Unit {0}
EndsBy end (s ∷ ss) = (s.to ≤ end) × EndsBy end ss

-- the fall and the rise of each stretch
abbrev pub edges_of : List Stretch → List Edge
edges_of [] = []
edges_of (s ∷ ss) = record { at = s.from; low = true } ∷ record { at = s.to; low = false } ∷ edges_of ss

-- edges in turn keep the level before the first one
abbrev pub LevelsStayBefore : Type 0
LevelsStayBefore = (b : Bool) (from : ℕ) (es : List Edge) → AreInTurn b from es → (u : ℕ) → u < from → level_at b es u ≡ b

-- they are in turn from an earlier instant on
abbrev pub EdgesAreInTurnSooner : Type 0
EdgesAreInTurnSooner = (b : Bool) (from before : ℕ) (es : List Edge) → before ≤ from → AreInTurn b from es → AreInTurn b before es

-- an edge that is known before others comes no later than their end
abbrev pub KnownEdgesAreEarly : Type 0
KnownEdgesAreEarly = (edge : Option Edge) (edges : List Edge) (end limit : ℕ) → EndBy end (option_to_list edge ++ edges) → end ≤ limit
    → IfSome edge (λ e. e.at ≤ limit)

-- a wave that is high from an end on has no stretch past it
abbrev pub HighLinesHaveEnded : Type 0
HighLinesHaveEnded = (ss : List Stretch) (from end : ℕ) → IsWaveFrom from ss → ((u : ℕ) → end ≤ u → line_of ss u ≡ false)
    → EndsBy end ss
