-- The lines that report the EDIDs of ports (the profile's own text).
use Rattle.std.specs.Prelude.{◌≡◌, ℕ, Bool, not, ◌&&◌, if◌then◌else◌, List, [], ◌∷◌, length, slice_get, Option, Some, None, codes}
use Rattle.std.specs.Fmt.{decimal}
use Rattle.std.specs.List.{concat, flat_map, range_with_len}
use Rattle.std.specs.Option.{option_map_or}
use Rattle.text_core.specs.Piece.{hex_text}
use Rattle.record_core.specs.Cells.{PlainCell, both}
use Rattle.record_core.specs.Records.{line_of}
use Rattle.record_core.specs.Values.{hex, number, text}
use Rattle.record_core.specs.declared.cell.Form.{Form}
use Rattle.record_core.specs.declared.cell.Form.TheVariants.{Text}
use Rattle.room_trace.specs.Records.{by_form}
use Rattle.edid_core.specs.declared.edid.Edid.{Edid}
use Rattle.edid_tree.specs.Node.{Node}
use Rattle.edid_tree.specs.Tree.{ports_of}
use Rattle.edid_tree.specs.Path.{is_on_wire}
use Rattle.edid_tree.specs.Port.{port_bytes}

-- the line: the instant, the name of the port's device, the port's number, and all bytes of the EDID that it passes on
abbrev pub port_line_of : ℕ → List ℕ → ℕ → List ℕ → List ℕ
port_line_of at name port bytes = concat (decimal at ∷ codes " port " ∷ name ∷ codes " " ∷ decimal port ∷ codes " " ∷ flat_map hex_text bytes ∷ codes "\n" ∷ [])

-- as a record
abbrev pub port_cells : ℕ → List ℕ → ℕ → List ℕ → List PlainCell
port_cells at name port bytes =
    both [] (codes "at") (number at) ∷ both (codes " port ") (codes "device") (text name) ∷ both (codes " ") (codes "port") (number port) ∷ both (codes " ") (codes "edid") (hex bytes) ∷ []

abbrev pub port_text_of : Form → ℕ → List ℕ → ℕ → List ℕ → List ℕ
port_text_of form at name port bytes = by_form form (port_line_of at name port bytes) (codes "port") (port_cells at name port bytes)

abbrev pub name_in : List Node → ℕ → List ℕ
name_in tree device = option_map_or (λ node. node.name) (slice_get tree device) []

abbrev pub port_text : Form → ℕ → Edid → List Node → ℕ → ℕ → List ℕ
port_text form at root tree device port = port_text_of form at (name_in tree device) port (port_bytes root tree device port)

-- the lines, or the objects, of a device's ports, which count from 1
abbrev pub texts_of_ports : Form → ℕ → Edid → List Node → ℕ → List ℕ
texts_of_ports form at root tree device = flat_map (port_text form at root tree device) (range_with_len 1 (ports_of tree device))

-- the same for a device that is on the wire and was not before; nothing for another
abbrev pub texts_of_new : Form → ℕ → Edid → List Node → Bool → ℕ → List ℕ
texts_of_new form at root tree was device = if is_on_wire tree device && not was then texts_of_ports form at root tree device else []

-- those of all devices that are on the wire and were not before, by number; none where there is no EDID
abbrev pub port_texts : Form → ℕ → Option Edid → (ℕ → Bool) → List Node → List ℕ
port_texts form at None was tree = []
port_texts form at (Some root) was tree = flat_map (λ device. texts_of_new form at root tree (was device) device) (range_with_len 0 (length tree))

-- ---- the lines

abbrev pub port_line : ℕ → Edid → List Node → ℕ → ℕ → List ℕ
port_line = port_text Text

abbrev pub lines_of_ports : ℕ → Edid → List Node → ℕ → List ℕ
lines_of_ports = texts_of_ports Text

abbrev pub lines_of_new : ℕ → Edid → List Node → Bool → ℕ → List ℕ
lines_of_new = texts_of_new Text

abbrev pub port_lines : ℕ → Option Edid → (ℕ → Bool) → List Node → List ℕ
port_lines = port_texts Text

-- ---- law

-- the line of a port is that of its record
abbrev pub PortLinesAreRecords : Type 0
PortLinesAreRecords = (at : ℕ) (name : List ℕ) (port : ℕ) (bytes : List ℕ) → line_of (port_cells at name port bytes) ≡ port_line_of at name port bytes
