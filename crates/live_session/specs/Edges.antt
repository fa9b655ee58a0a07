-- The edges of the line that a session reports, a line or an object each: `~ T 0` for a fall, `~ T 1` for a rise (this profile's own).
use Rattle.std.specs.Prelude.{ℕ, ◌&&◌, Bool, min, nat_lt, nat_le, if◌then◌else◌, codes, List, [], ◌∷◌, ◌++◌, Option, Some, None}
use Rattle.std.specs.List.{flat_map}
use Rattle.std.specs.Fmt.{decimal}
use Rattle.line_wave.specs.declared.Stretch.{Stretch}
use Rattle.line_wave.specs.Bounds.{latest_instant}
use Rattle.record_core.specs.Cells.{PlainCell, both}
use Rattle.record_core.specs.Values.{number}
use Rattle.record_core.specs.declared.cell.Form.{Form}
use Rattle.room_trace.specs.Records.{by_form}
use Rattle.live_session.specs.declared.edges.InstantRange.{InstantRange}

-- the instant, and the level that the line then has: 0 low, 1 high
abbrev pub edge_line : ℕ → ℕ → List ℕ
edge_line at level = codes "~ " ++ (decimal at ++ (codes " " ++ (decimal level ++ codes "\n")))

-- as a record
abbrev pub edge_cells : ℕ → ℕ → List PlainCell
edge_cells at level = both (codes "~ ") (codes "at") (number at) ∷ both (codes " ") (codes "level") (number level) ∷ []

abbrev pub edge_text : Form → ℕ → ℕ → List ℕ
edge_text form at level = by_form form (edge_line at level) (codes "edge") (edge_cells at level)

-- an instant lies in a span, which is half open
abbrev pub is_in : InstantRange → ℕ → Bool
is_in span at = nat_le span.from at && nat_lt at span.until

abbrev pub edge_reported : Form → InstantRange → ℕ → ℕ → List ℕ
edge_reported form span at level = if is_in span at then edge_text form at level else []

-- a low stretch of a round's line falls at its begin and rises at its end
abbrev pub stretch_reported : Form → InstantRange → Stretch → List ℕ
stretch_reported form span s = edge_reported form span s.from 0 ++ edge_reported form span s.to 1

-- the edges of a round that lie in a span, in their order
abbrev pub edges_reported : Form → InstantRange → List Stretch → List ℕ
edges_reported form span wave = flat_map (stretch_reported form span) wave

-- The line of a round, where the pin is low from an instant on: before that instant its own stretches, and from there on the pull of the
-- pin, which ends nowhere yet, and is one with the stretch that it overlaps or touches.
abbrev pub pinned : ℕ → List Stretch → List Stretch
pinned low [] = record { from = low; to = latest_instant } ∷ []
pinned low (s ∷ wave) = if nat_lt s.to low then s ∷ pinned low wave else record { from = min s.from low; to = latest_instant } ∷ []

-- the same, whether the pin is low or not
abbrev pub pinned_by : Option ℕ → List Stretch → List Stretch
pinned_by None wave = wave
pinned_by (Some low) wave = pinned low wave

-- the first edge of a round at an instant or later
abbrev pub first_edge : ℕ → List Stretch → Option ℕ
first_edge from [] = None
first_edge from (s ∷ wave) = if nat_le from s.from then Some s.from else if nat_le from s.to then Some s.to else first_edge from wave
