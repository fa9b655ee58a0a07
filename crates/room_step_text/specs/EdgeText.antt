-- The line that reports an edge, and where each device then stands (the profile's own text), or its object.
use Rattle.std.specs.Prelude.{ℕ, Bool, true, false, if◌then◌else◌, List, [], ◌∷◌, codes}
use Rattle.std.specs.List.{flat_map}
use Rattle.line_wave.specs.declared.Edge.{Edge}
use Rattle.line_reading.specs.Phase.{Standing}
use Rattle.line_reading.specs.Phase.Standing.{Idle, StartLow, StartHigh, InSlot, WaitHigh}
use Rattle.device_core.specs.State.{State}
use Rattle.device_core.specs.Place.{is_on_wire}
use Rattle.record_core.specs.Cells.{PlainCell, PlainValue, both, hidden, line_only, listed, position_json, position_text, stand_json, stand_text}
use Rattle.record_core.specs.Records.{record_text}
use Rattle.record_core.specs.Values.{at_place, in_slot, number, plain, stands, text}
use Rattle.record_core.specs.declared.cell.Form.{Form}
use Rattle.record_core.specs.declared.cell.Position.{Position}
use Rattle.record_core.specs.declared.cell.Stand.{Stand}

-- where a receiver stands
abbrev pub standing_value : Standing → PlainValue
standing_value Idle = at_place (codes "idle")
standing_value StartLow = at_place (codes "start-low")
standing_value StartHigh = at_place (codes "start-high")
standing_value (InSlot slot bits) = in_slot slot bits
standing_value WaitHigh = at_place (codes "wait-high")

-- a device that is on the wire, and where its receiver stands
abbrev pub standing_device : PlainValue → State → List (List ℕ × PlainValue)
standing_device position d = if is_on_wire d then (d.name, position) ∷ [] else []

abbrev pub stands_of : List (List ℕ × PlainValue) → PlainValue
stands_of parts = stands (λ p. p.0) (λ p. p.1) parts

-- an edge, its level as a word and as the lines of a wire have it, and devices that stand
abbrev pub level_word : Bool → List ℕ
level_word true = codes "low"
level_word false = codes "high"

abbrev pub level_number : Bool → ℕ
level_number true = 0
level_number false = 1

abbrev pub stood_cells : ℕ → List ℕ → ℕ → PlainValue → List PlainCell
stood_cells at word level devices =
    both [] (codes "at") (number at) ∷ line_only (codes " ") (text word) ∷ hidden (codes "level") (number level) ∷ both [] (codes "devices") devices ∷ []

-- The instant, the level that the line then has, and each device on the wire by number. All of them hear one line, so
-- they stand alike.
abbrev pub edge_cells : List State → Edge → Standing → List PlainCell
edge_cells devices edge standing =
    stood_cells edge.at (level_word edge.low) (level_number edge.low) (stands_of (flat_map (standing_device (standing_value standing)) devices))

abbrev pub edge_text : Form → List State → Edge → Standing → List ℕ
edge_text form devices edge standing = record_text form (codes "edge") (edge_cells devices edge standing)

-- ---- the same of what the code has

abbrev pub position_value : Position → PlainValue
position_value p = plain (position_text p) (position_json p)

abbrev pub stand_part : Stand → List ℕ × PlainValue
stand_part s = (s.name.now, position_value s.position)

abbrev pub stands_value : List Stand → PlainValue
stands_value ss = plain (flat_map stand_text ss) (listed stand_json ss)
