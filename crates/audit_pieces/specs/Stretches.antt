-- The low stretches of a capture, and of what class each is by its width and by what follows it.
use Rattle.std.specs.Prelude.{ℕ, ◌-◌, Bool, false, nat_lt, nat_le, ◌&&◌, if◌then◌else◌, List, [], ◌∷◌, Option, Some, None}
use Rattle.audit_widths.specs.declared.low.Low.{Low}
use Rattle.audit_pieces.specs.declared.stretch.Class.{Class}
use Rattle.audit_pieces.specs.declared.stretch.Class.TheVariants.{Bit, Long, Start, Cut}
use Rattle.audit_pieces.specs.declared.stretch.LowStretch.{LowStretch}
use Rattle.audit_pieces.specs.Bounds.{long_from, shortest_start, longest_start}

-- where it rises, or the capture ends
abbrev pub rise_by : ℕ → Option ℕ → ℕ
rise_by end None = end
rise_by end (Some rise) = rise

abbrev pub is_long_by : ℕ → Low → Bool
is_long_by end low = nat_le long_from (rise_by end low.rise - low.fall)

-- A start bit is long, and a bit falls after it about as long as a start bit lasts (CEC 5.2.1).
abbrev pub is_start_before : ℕ → Low → Option Low → Bool
is_start_before end low None = false
is_start_before end low (Some next) =
    nat_le shortest_start (next.fall - low.fall) && (nat_le (next.fall - low.fall) longest_start && nat_lt (rise_by end next.rise - next.fall) long_from)

-- of one that rises
abbrev pub class_by : Bool → Bool → Class
class_by long starts = if long then (if starts then Start else Long) else Bit

-- one whose rise the capture doesn't have is cut off
abbrev pub class_of : ℕ → Low → Option Low → Option ℕ → Class
class_of end low next None = Cut
class_of end low next (Some rise) = class_by (is_long_by end low) (is_start_before end low next)

-- a low stretch of a capture up to `end`, with the one after it
abbrev pub classed : ℕ → Low → Option Low → LowStretch
classed end low next = record { fall = low.fall; rise = rise_by end low.rise; class = class_of end low next low.rise }

abbrev pub first_of : List Low → Option Low
first_of [] = None
first_of (low ∷ lows) = Some low

-- all of them
abbrev pub stretches_of : ℕ → List Low → List LowStretch
stretches_of end [] = []
stretches_of end (low ∷ lows) = classed end low (first_of lows) ∷ stretches_of end lows
