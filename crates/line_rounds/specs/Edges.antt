-- The edges of a line. (own)
use Rattle.std.specs.Prelude.{◌≡◌, ℕ, ◌<◌, ◌≤◌, not, Option, Some, None}
use Rattle.line_wave.specs.declared.Edge.{Edge}
use Rattle.line_wave.specs.Line.{Line, was_low}

-- the first edge at t or later, if there is one
abbrev pub IsNextEdge : Line → ℕ → Option Edge → Type 0
IsNextEdge low t None = (u : ℕ) → t ≤ u → low u ≡ was_low low t
IsNextEdge low t (Some edge) =
    (t ≤ edge.at) × (low edge.at ≡ edge.low) × (was_low low t ≡ not edge.low) × ((u : ℕ) → t ≤ u → u < edge.at → low u ≡ was_low low t)
