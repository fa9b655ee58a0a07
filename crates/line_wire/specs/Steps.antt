-- What the parts of a wire do with a microsecond. (own)
use Rattle.std.specs.Prelude.{◌≡◌, ℕ, ◌≤◌, ◌==◌, Bool, false, not, Option, Some, None}
use Rattle.line_wave.specs.declared.Edge.{Edge}
use Rattle.line_reading.specs.declared.receiver.Receiver.{Receiver}
use Rattle.line_reading.specs.declared.receiver.Told.{Told}
use Rattle.line_reading.specs.Follows.{StoodBefore, StandsOn}
use Rattle.line_reading.specs.Hears.{heard_by, wake_of}
use Rattle.line_reading.specs.Kept.{reported_at}

-- with microsecond t, in which the line is low or not, and was low or not just before: an edge, or none
abbrev pub EdgeBy : Bool → Bool → ℕ → Option Edge → Type 0
EdgeBy was low t None = low ≡ was
EdgeBy was low t (Some edge) = (edge.at ≡ t) × (edge.low ≡ low) × (was ≡ not edge.low)

-- a wake at t
abbrev pub wakes_in : Option ℕ → ℕ → Bool
wakes_in None t = false
wakes_in (Some n) t = n == t

-- A receiver that stood before t on a line, and did not wake before t, stands on it after t.
abbrev pub StandsAfter : Receiver → ℕ → Bool → Told → Receiver → Type 0
StandsAfter old t low reported new =
    (line : ℕ → Bool) → StoodBefore old line t → line t ≡ low → ((w : ℕ) → wake_of (heard_by old) ≡ Some w → t ≤ w) → StandsOn new line t × (reported ≡ reported_at line t)
