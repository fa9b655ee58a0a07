-- The objects of a room and of its script (own): one for each line of a device, a plug, an EDID, a pulse, a pull or the pin; and of an
-- event what its line of the script says.
use Rattle.std.specs.Prelude.{ℕ, suc, ◌-◌, ◌==◌, Bool, true, false, if◌then◌else◌, List, [], ◌∷◌, ◌++◌, Option, Some, None, codes, drop, take}
use Rattle.std.specs.List.{flat_map, position_or_len}
use Rattle.std.specs.Str.{bytes_eq}
use Rattle.text_core.specs.Lines.{lines_of}
use Rattle.text_core.specs.Number.{number_of}
use Rattle.record_core.specs.Cells.{PlainCell, hidden, line_only}
use Rattle.record_core.specs.Records.{object_of}
use Rattle.record_core.specs.Values.{number_or, string, text}
use Rattle.room_event.specs.declared.event.EventError.{EventError}
use Rattle.record_core.specs.declared.cell.Form.TheVariants.{Json}
use Rattle.room_trace.specs.Records.{event_cells, event_text}
use Rattle.room_trace.specs.declared.heads.RoomLine.{RoomLine}
use Rattle.room_trace.specs.declared.heads.RoomLine.TheVariants as heads

-- the texts of a topology and a script
pub record Room : Type 0 where
  pub topology : List ℕ
  pub script : List ℕ

abbrev pub room_of : List ℕ → List ℕ → Room
room_of topology script = record { topology = topology; script = script }

-- where they are asked for
abbrev pub room_if : Bool → List ℕ → List ℕ → Option Room
room_if true topology script = Some (room_of topology script)
room_if false topology script = None

-- ---- words, one space apart

-- the first word, and what stands after the space after it
abbrev pub word : List ℕ → List ℕ
word line = take (position_or_len (λ b. b == 32) line) line

abbrev pub after_word : List ℕ → List ℕ
after_word line = drop (suc (position_or_len (λ b. b == 32) line)) line

abbrev pub second : List ℕ → List ℕ
second line = word (after_word line)

abbrev pub third : List ℕ → List ℕ
third line = second (after_word line)

abbrev pub fourth : List ℕ → List ℕ
fourth line = third (after_word line)

-- ---- lines of the topology and of the script

-- which line it is, by its first word
abbrev pub head_of : List ℕ → RoomLine
head_of word =
    if bytes_eq word (codes "device") then heads.Device
    else if bytes_eq word (codes "plug") then heads.Plug
    else if bytes_eq word (codes "edid") then heads.Edid
    else if bytes_eq word (codes "pulse") then heads.Pulse
    else if bytes_eq word (codes "pull") then heads.Pull
    else if bytes_eq word (codes "pin") then heads.Pin
    else heads.Other

-- the line as it stands, and in the object alone what its words say: a device and what is said of it,
abbrev pub named_of : List ℕ → List ℕ → List ℕ → List ℕ → List ℕ → Option ℕ → List PlainCell
named_of other count line device of number =
    line_only [] (string line) ∷ hidden (codes "device") (text device) ∷ hidden other (text of) ∷ hidden count (number_or number) ∷ []

abbrev pub named_cells : List ℕ → List ℕ → List ℕ → List PlainCell
named_cells other count line = named_of other count line (second line) (third line) (number_of (fourth line))

-- an EDID in hex,
abbrev pub edid_of : List ℕ → List ℕ → List PlainCell
edid_of line bytes = line_only [] (string line) ∷ hidden (codes "edid") (text bytes) ∷ []

abbrev pub edid_cells : List ℕ → List PlainCell
edid_cells line = edid_of line (second line)

-- an instant and a number
abbrev pub timed_of : List ℕ → List ℕ → Option ℕ → Option ℕ → List PlainCell
timed_of name line at number = line_only [] (string line) ∷ hidden (codes "at") (number_or at) ∷ hidden name (number_or number) ∷ []

abbrev pub timed_cells : List ℕ → List ℕ → List PlainCell
timed_cells name line = timed_of name line (number_of (second line)) (number_of (third line))

-- the object of a line, if it has one
abbrev pub body_of : RoomLine → List ℕ → List ℕ
body_of heads.Device line = object_of (codes "device") (named_cells (codes "kind") (codes "ports") line)
body_of heads.Plug line = object_of (codes "plug") (named_cells (codes "parent") (codes "port") line)
body_of heads.Edid line = object_of (codes "edid") (edid_cells line)
body_of heads.Pulse line = object_of (codes "pulse") (timed_cells (codes "width") line)
body_of heads.Pull line = object_of (codes "pull") (timed_cells (codes "width") line)
body_of heads.Pin line = object_of (codes "pin") (timed_cells (codes "level") line)
body_of heads.Other line = []

abbrev pub head_text : List ℕ → List ℕ
head_text line = body_of (head_of (word line)) line

abbrev pub heads_of : Room → List ℕ
heads_of room = flat_map head_text (lines_of room.topology) ++ flat_map head_text (lines_of room.script)

abbrev pub heads_in : Option Room → List ℕ
heads_in None = []
heads_in (Some room) = heads_of room

-- ---- events

abbrev pub first_of : List (List ℕ) → List ℕ
first_of [] = []
first_of (line ∷ lines) = line

-- a line of a text by its number, counted from 1
abbrev pub line_at : List ℕ → ℕ → List ℕ
line_at lines number = first_of (drop (number - 1) (lines_of lines))

-- what `at T TEXT` says after its time: the verb, the device, and all of it
abbrev pub said_in : List ℕ → List ℕ
said_in line = after_word (after_word line)

abbrev pub said_of : List ℕ → List ℕ → List ℕ → List PlainCell
said_of verb device said = hidden (codes "verb") (text verb) ∷ hidden (codes "device") (text device) ∷ hidden (codes "text") (text said) ∷ []

abbrev pub said_cells : List ℕ → List PlainCell
said_cells line = said_of (word (said_in line)) (second (said_in line)) (said_in line)

-- the object of an event, in a room with what its line of the script says
abbrev pub event_object : Option Room → ℕ → ℕ → Option EventError → List ℕ
event_object None at line refused = event_text Json at line refused
event_object (Some room) at line refused = object_of (codes "event") (event_cells at line refused ++ said_cells (line_at room.script line))
