-- The lines of a trace as records (own).
use Rattle.std.specs.Prelude.{◌≡◌, ℕ, if◌then◌else◌, List, [], ◌∷◌, ◌++◌, Option, Some, None, codes, map, length}
use Rattle.line_rounds.specs.declared.Outcome.{Outcome}
use Rattle.device_core.specs.State.{State, addresses_held, held_by}
use Rattle.device_core.specs.Place.{is_on_wire}
use Rattle.device_features.specs.Kinds.{is_outside}
use Rattle.device_features.specs.declared.record.HeardReport.{HeardReport}
use Rattle.message_table.specs.DeckWords.{deck_info_byte}
use Rattle.room_event.specs.declared.event.EventError.{EventError}
use Rattle.text_core.specs.Kind.{kind_word}
use Rattle.text_core.specs.declared.kind.Kind.{Kind}
use Rattle.text_core.specs.declared.kind.Kind.TheVariants.{Combo}
use Rattle.text_core.specs.Piece.{piece_text}
use Rattle.text_core.specs.declared.piece.Piece.{Piece}
use Rattle.text_core.specs.declared.piece.Piece.TheVariants.{NibbleOrDash}
use Rattle.reading_record.specs.Reading.{reading_cells}
use Rattle.record_core.specs.Cells.{PlainCell, PlainValue, both, gathered, hidden, item_json, joined, line_only, part_json, part_text}
use Rattle.record_core.specs.Records.{line_of, object_of}
use Rattle.record_core.specs.Values.{hex, hex_byte, hex_byte_or, hex_or, nibble, nibble_or, nothing, number, number_or, out, parts, phys_or, pieces, plain, string, switch, text, words}
use Rattle.record_core.specs.declared.cell.Form.{Form}
use Rattle.record_core.specs.declared.cell.Out.{Out}
use Rattle.record_core.specs.declared.cell.Part.{Part}
use Rattle.record_core.specs.declared.cell.Form.TheVariants.{Text, Json}
use Rattle.room_trace.specs.StateText.{language_bytes, phys_on, power_text, state_line}
use Rattle.room_trace.specs.TraceText.{end_line, error_word, event_line, name_at, round_line}

-- a line, or the object of its cells
abbrev pub by_form : Form → List ℕ → List ℕ → List PlainCell → List ℕ
by_form Text line kind cells = line
by_form Json line kind cells = object_of kind cells

-- ---- rounds

-- a value of a list, and a device that was out
abbrev pub item_value : Piece → PlainValue
item_value p = plain (piece_text p) (item_json p)

abbrev pub out_value : Out → PlainValue
out_value o = out o.name.now o.slot

abbrev pub outs_value : List Out → PlainValue
outs_value outs = words out_value (codes ",") outs

-- who sent to the end, and who stopped before, each with the slot
abbrev pub seat_cells : List State → Outcome → List PlainCell
seat_cells devices o =
    both (codes " by ") (codes "by") (words (λ n. string (name_at devices n)) (codes ",") o.survivors.items)
    ∷ both (codes " out ") (codes "out") (words (λ l. out (name_at devices l.seat) l.slot) (codes ",") o.losers.items) ∷ []

-- a round: its reading, and those
abbrev pub round_cells : List State → Outcome → List PlainCell
round_cells devices o = reading_cells o.reading ++ seat_cells devices o

abbrev pub round_text : Form → List State → Outcome → List ℕ
round_text form devices o = by_form form (round_line devices o) (codes "round") (round_cells devices o)

-- ---- events, and the end

abbrev pub verdict_cells : Option EventError → List PlainCell
verdict_cells None = both (codes " ") (codes "verdict") (text (codes "ok")) ∷ hidden (codes "cause") nothing ∷ []
verdict_cells (Some error) = both (codes " ") (codes "verdict") (text (codes "refused")) ∷ both (codes " ") (codes "cause") (text (error_word error)) ∷ []

abbrev pub event_cells : ℕ → ℕ → Option EventError → List PlainCell
event_cells at line refused = both [] (codes "at") (number at) ∷ both (codes " event ") (codes "script_line") (number line) ∷ verdict_cells refused

abbrev pub event_text : Form → ℕ → ℕ → Option EventError → List ℕ
event_text form at line refused = by_form form (event_line at line refused) (codes "event") (event_cells at line refused)

abbrev pub end_cells : ℕ → List PlainCell
end_cells end = both [] (codes "at") (number end) ∷ line_only (codes " end") nothing ∷ []

abbrev pub end_text : Form → ℕ → List ℕ
end_text form end = by_form form (end_line end) (codes "end") (end_cells end)

-- ---- states

-- the addresses of a device, of a box both, of a device from outside those that it holds
abbrev pub units_of : Kind → List (Option ℕ) → List (Option ℕ)
units_of Combo (first ∷ second ∷ _) = first ∷ second ∷ []
units_of _ (first ∷ _) = first ∷ []
units_of _ [] = []

abbrev pub some_units : List (Option ℕ) → List (Option ℕ)
some_units [] = []
some_units (None ∷ units) = some_units units
some_units (Some a ∷ units) = Some a ∷ some_units units

abbrev pub held_units : List (Option ℕ) → List (Option ℕ)
held_units [] = []
held_units (first ∷ others) = first ∷ some_units others

abbrev pub unit_pieces : List (Option ℕ) → List Piece
unit_pieces units = map (λ unit. NibbleOrDash unit) units

-- a part of what was heard: the name of its field, and its value
abbrev pub heard_parts : Option HeardReport → List (List ℕ × PlainValue)
heard_parts None = []
heard_parts (Some n) = (codes "initiator", nibble n.from) ∷ (codes "opcode", hex_byte n.opcode) ∷ (codes "first_operand", hex_byte n.first) ∷ []

abbrev pub parts_value : List Part → PlainValue
parts_value ps = plain (joined part_text (codes ":") ps) (gathered part_json ps)

abbrev pub heard_value : Option HeardReport → PlainValue
heard_value heard = parts (λ p. p.0) (λ p. p.1) (codes ":") (heard_parts heard)

-- with what every device has first: its name, its kind, its addresses; and with how many frames wait and were given up
abbrev pub device_cells : State → PlainValue → List PlainCell → List PlainCell
device_cells d units cells =
    both (codes "state ") (codes "device") (text d.name) ∷ both (codes " ") (codes "kind") (text (kind_word d.kind))
    ∷ both (codes " ") (codes "logical_addresses") units ∷ both (codes " ") (codes "physical_address") (phys_or (phys_on (is_on_wire d) d.phys)) ∷ cells

abbrev pub queue_cells : State → List PlainCell
queue_cells d = both (codes " queue=") (codes "queued") (number (length d.queue)) ∷ both (codes " dropped=") (codes "dropped") (number d.dropped) ∷ []

-- what a device remembers
abbrev pub state_cells_of : State → PlainValue → List ℕ → PlainValue → List PlainCell
state_cells_of d units language heard =
    device_cells d units (
    both (codes " ") (codes "power") (text (power_text d.record_of.power)) ∷ both (codes " active=") (codes "active_source") (phys_or d.record_of.active)
    ∷ both (codes " path=") (codes "path") (phys_or d.record_of.path) ∷ both (codes " deck=") (codes "deck") (hex_byte (deck_info_byte d.record_of.deck))
    ∷ both (codes " menu=") (codes "menu") (switch d.record_of.menu) ∷ both (codes " audio=") (codes "system_audio") (switch d.record_of.audio)
    ∷ both (codes " volume=") (codes "volume") (number d.record_of.volume) ∷ both (codes " mute=") (codes "mute") (switch d.record_of.mute)
    ∷ both (codes " arc=") (codes "audio_return_channel") (switch d.record_of.arc) ∷ both (codes " sel=") (codes "selected_port") (number_or d.record_of.selected)
    ∷ both (codes " lang=") (codes "menu_language") (hex language) ∷ both (codes " osd=") (codes "osd_text") (hex_or d.record_of.osd.items)
    ∷ both (codes " held=") (codes "held_key") (hex_byte_or d.record_of.held) ∷ both (codes " heard=") (codes "heard") heard
    ∷ both (codes " sub=") (codes "subscriber") (nibble_or d.record_of.sub) ∷ queue_cells d)

abbrev pub none : PlainValue
none = text (codes "-")

-- nobody but its driver knows more of a device from outside
abbrev pub outside_cells : State → PlainValue → List PlainCell
outside_cells d units =
    device_cells d units (
    both (codes " ") (codes "power") none ∷ both (codes " active=") (codes "active_source") none ∷ both (codes " path=") (codes "path") none
    ∷ both (codes " deck=") (codes "deck") none ∷ both (codes " menu=") (codes "menu") none ∷ both (codes " audio=") (codes "system_audio") none
    ∷ both (codes " volume=") (codes "volume") none ∷ both (codes " mute=") (codes "mute") none ∷ both (codes " arc=") (codes "audio_return_channel") none
    ∷ both (codes " sel=") (codes "selected_port") none ∷ both (codes " lang=") (codes "menu_language") none ∷ both (codes " osd=") (codes "osd_text") none
    ∷ both (codes " held=") (codes "held_key") none ∷ both (codes " heard=") (codes "heard") none ∷ both (codes " sub=") (codes "subscriber") none ∷ queue_cells d)

abbrev pub state_cells : State → List PlainCell
state_cells d =
    if is_outside d.kind then outside_cells d (pieces (codes "+") (unit_pieces (held_units (held_by d))))
    else state_cells_of d (pieces (codes "+") (unit_pieces (units_of d.kind (addresses_held d.place)))) (language_bytes d.record_of.language) (heard_value d.record_of.heard)

abbrev pub state_text : Form → State → List ℕ
state_text form d = by_form form (state_line d) (codes "state") (state_cells d)

-- ---- laws

-- the lines of a trace are those of its records
pub record Lines : Type 0 where
  pub round : (devices : List State) (o : Outcome) → line_of (round_cells devices o) ≡ round_line devices o
  pub event : (at line : ℕ) (refused : Option EventError) → line_of (event_cells at line refused) ≡ event_line at line refused
  pub state : (d : State) → line_of (state_cells d) ≡ state_line d
  pub end : (end : ℕ) → line_of (end_cells end) ≡ end_line end

abbrev pub LinesAreRecords : Type 0
LinesAreRecords = Lines
