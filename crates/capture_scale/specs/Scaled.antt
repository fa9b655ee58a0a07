-- A captured line whose times are of another unit, or of a clock that is off (own). A factor is a number of ten-thousandths.
use Rattle.std.specs.Prelude.{◌≡◌, ℕ, ◌+◌, ◌*◌, ◌/◌, ◌≤◌, ◌&&◌, min, Bool, nat_le, true, false, List, map}
use Rattle.line_wave.specs.declared.Edge.{Edge}
use Rattle.line_wave.specs.Bounds.{latest_instant}
use Rattle.capture_core.specs.Edges.{Captured, IsCapture}
use Rattle.capture_smooth.specs.Smooth.{smooth_edges}
use Rattle.capture_scale.specs.declared.scaling.ScaleError.{ScaleError}
use Rattle.capture_scale.specs.declared.scaling.ScaleError.TheVariants.{Memory, OutOfRange}

-- an instant of the line in whole microseconds, cut
abbrev pub scaled_at : ℕ → ℕ → ℕ
scaled_at factor at = at * factor / 10000

abbrev pub scaled_edge : ℕ → Edge → Edge
scaled_edge factor e = record { at = scaled_at factor e.at; low = e.low }

-- The shortest pulse or gap that lasts a microsecond when it is scaled: 10,000 through the factor, rounded up.
abbrev pub shortest_kept : ℕ → ℕ
shortest_kept factor = 9999 / factor + 1

-- Pulses and gaps that would be shorter than a microsecond are left out, and each edge that is left is scaled.
abbrev pub scaled_edges : ℕ → List Edge → List Edge
scaled_edges factor es = map (scaled_edge factor) (smooth_edges (shortest_kept factor) es)

abbrev pub scaled : ℕ → Captured → Captured
scaled factor c = record { edges = scaled_edges factor c.edges; end = scaled_at factor c.end }

-- A factor is from 1 to 10,000,000 ten-thousandths, and the scaled end is within the limit of a capture.
abbrev pub is_scalable : ℕ → ℕ → Bool
is_scalable factor end = nat_le 1 factor && nat_le factor 10000000 && nat_le (scaled_at factor end) latest_instant

-- an edge that is scaled, at most at the limit, which is the same where the end is scaled within it
abbrev pub cut_edge : ℕ → Edge → Edge
cut_edge factor e = record { at = min (scaled_at factor e.at) latest_instant; low = e.low }

-- why a capture is not scaled
abbrev pub IsRefused : ℕ → ℕ → ScaleError → Type 0
IsRefused factor end OutOfRange = is_scalable factor end ≡ false
IsRefused factor end Memory = Unit {0}

-- ---- laws

pub record Scaling : Type 0 where
  pub one : (es : List Edge) (end : ℕ) → IsCapture es end → scaled 10000 (record { edges = es; end = end }) ≡ record { edges = es; end = end }
  pub capture : (factor : ℕ) (es : List Edge) (end : ℕ) → IsCapture es end → is_scalable factor end ≡ true → IsCapture (scaled_edges factor es) (scaled_at factor end)
  pub all : (factor : ℕ) (es : List Edge) (end : ℕ) → 10000 ≤ factor → IsCapture es end → scaled_edges factor es ≡ map (scaled_edge factor) es

-- By a factor of 1 a capture is as it was. Scaled within the limit it is a capture: its edges alternate, each later than the one
-- before it. By a factor of 1 or more each of its edges stays.
abbrev pub ScalingKeepsCaptures : Type 0
ScalingKeepsCaptures = Scaling
