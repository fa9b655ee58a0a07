-- A Value Change Dump (IEEE 1364-2005, 18) of which one wire is the CEC line, and the edges that it reports. It is read word
-- by word: the times of its changes, and the values of that wire. All else is passed over.
use Rattle.std.specs.Prelude.{◌≡◌, ℕ, ◌+◌, ◌==◌, ◌&&◌, ◌||◌, Bool, true, false, nat_lt, if◌then◌else◌, List, [], ◌∷◌, length, drop, slice_index, codes, Option, Some, None, Result, Ok, Err}
use Rattle.std.specs.Option.{option_copied}
use Rattle.std.specs.List.{list_all, slice_split}
use Rattle.std.specs.Str.{bytes_eq}
use Rattle.text_core.specs.Lines.{lines_of}
use Rattle.text_core.specs.declared.at.At.{At}
use Rattle.capture_core.specs.Edges.{Captured}
use Rattle.capture_core.specs.Track.{Moved, first_track as line_begun, track_move, with_level}
use Rattle.capture_core.specs.Reading.{Form, Step, at_word, lines_read}
use Rattle.capture_core.specs.declared.fault.Cause.{Cause}
use Rattle.capture_core.specs.declared.fault.Cause.TheVariants as cause
use Rattle.capture_core.specs.declared.track.Track.{Track}
use Rattle.capture_vcd.specs.Scale.{counted_word, instant_of, unit_of}
use Rattle.capture_vcd.specs.declared.scale.Count.{Count}
use Rattle.capture_vcd.specs.declared.scale.Unit.{Unit as UnitOf}
use Rattle.capture_vcd.specs.declared.scale.Scale.{Scale as ScaleOf}
use Rattle.capture_vcd.specs.declared.reader.DefinitionField.{DefinitionField}
use Rattle.capture_vcd.specs.declared.reader.DefinitionField.TheVariants as field
use Rattle.capture_vcd.specs.declared.reader.Section.{Section}
use Rattle.capture_vcd.specs.declared.reader.Section.TheVariants as section
use Rattle.capture_vcd.specs.declared.reader.VcdReader.{VcdReader}

-- ---- words

-- space, tab, carriage return; lines end with a line feed
abbrev pub is_space : ℕ → Bool
is_space b = (b == 32) || (b == 9) || (b == 13)

-- the words of a line; between two spaces there is an empty word
abbrev pub parts_of : List ℕ → List (List ℕ)
parts_of line = slice_split is_space line

abbrev pub is_end : List ℕ → Bool
is_end word = bytes_eq word (codes "$end")

-- ---- where a reader stands

pub record State : Type 0 where
  pub name : List ℕ
  pub section : Section
  pub scale : Option ScaleOf
  pub id : Option (List ℕ)
  pub candidate : List ℕ
  pub is_data : Bool
  pub track : Track

abbrev pub state_of_reader : VcdReader → State
state_of_reader r = record {
  name = r.name.now;
  section = r.section;
  scale = r.scale;
  id = option_copied r.id;
  candidate = r.candidate.now;
  is_data = r.is_data;
  track = r.track;
}

abbrev pub first_state : List ℕ → State
first_state name = record {
  name = name;
  section = section.Free;
  scale = None;
  id = None;
  candidate = name;
  is_data = false;
  track = line_begun;
}

-- ---- what a word leads to

abbrev pub Stepped : Type 0
Stepped = Result (Step State) Cause

abbrev pub no_edge : State → Stepped
no_edge s = Ok (record { state = s; edge = None })

-- at 1, z and x nobody pulls the line low (own)
abbrev pub is_high : ℕ → Bool
is_high b = (b == 49) || (b == 122) || (b == 90) || (b == 120) || (b == 88)

abbrev pub is_bit : ℕ → Bool
is_bit b = (b == 48) || is_high b

-- a vector of bits: b, and one bit or more
abbrev pub is_vector : List ℕ → Bool
is_vector word = ((slice_index word 0 == 98) || (slice_index word 0 == 66)) && (nat_lt 0 (length (drop 1 word)) && list_all is_bit (drop 1 word))

-- a real number or a string: r, s
abbrev pub is_other_value : ℕ → Bool
is_other_value b = (b == 114) || (b == 82) || (b == 115) || (b == 83)

-- what stands after these keywords counts as changes
abbrev pub is_mark : List ℕ → Bool
is_mark word =
    bytes_eq word (codes "$dumpvars") || bytes_eq word (codes "$dumpall") || bytes_eq word (codes "$dumpon") || bytes_eq word (codes "$dumpoff") || is_end word

-- a value of one bit in the form of a vector
abbrev pub vector_value : List ℕ → Option Bool
vector_value word = if length word == 2 then Some (slice_index word 1 == 48) else None

abbrev pub is_own : List ℕ → Option (List ℕ) → Bool
is_own id None = false
is_own id (Some own) = bytes_eq id own

abbrev pub after_value : Option Bool → List ℕ → State → State
after_value None id s = s
after_value (Some low) id s = if is_own id s.id then record s { track = with_level low s.track } else s

-- a value and its identifier are one word, or two (sigrok reads both)
abbrev pub scalar : Bool → List ℕ → State → State
scalar low id s = if length id == 0 then record s { section = section.Value (Some low) } else after_value (Some low) id s

abbrev pub timed_by : Option Moved → State → Stepped
timed_by None s = Err cause.Order
timed_by (Some m) s = Ok (record { state = record s { track = m.track }; edge = m.edge })

abbrev pub after_time : Option ℕ → State → Stepped
after_time None s = Err cause.Time
after_time (Some u) s = timed_by (track_move u s.track) s

abbrev pub instant_by : Option ScaleOf → List ℕ → State → Stepped
instant_by None word s = Err cause.Scale
instant_by (Some scale) word s = after_time (instant_of scale word) s

-- the definitions end, which must have named a time scale and the wire
abbrev pub named_by : Option ScaleOf → Option (List ℕ) → State → Stepped
named_by None id s = Err cause.Scale
named_by (Some scale) None s = Err cause.Signal
named_by (Some scale) (Some id) s = no_edge (record s { is_data = true; section = section.Skipped })

abbrev pub end_of_definitions : State → Stepped
end_of_definitions s = named_by s.scale s.id s

abbrev pub definition : List ℕ → State → Stepped
definition word s =
    if bytes_eq word (codes "$enddefinitions") then end_of_definitions s
    else if bytes_eq word (codes "$timescale") then no_edge (record s { section = section.Scale })
    else if bytes_eq word (codes "$var") then no_edge (record s { section = section.Variable field.Kind })
    else if is_end word then no_edge s
    else no_edge (record s { section = section.Skipped })

abbrev pub after_mark : List ℕ → State → State
after_mark word s = if is_mark word then s else record s { section = section.Skipped }

abbrev pub keyword : List ℕ → State → Stepped
keyword word s = if s.is_data then no_edge (after_mark word s) else definition word s

abbrev pub change : ℕ → List ℕ → State → Stepped
change b word s =
    if b == 35 then instant_by s.scale (drop 1 word) s
    else if b == 48 then no_edge (scalar true (drop 1 word) s)
    else if is_high b then no_edge (scalar false (drop 1 word) s)
    else if is_vector word then no_edge (record s { section = section.Value (vector_value word) })
    else if is_other_value b then no_edge (record s { section = section.Value None })
    else Err cause.Word

-- what stands before the definitions or between them says nothing: sigrok-cli puts a line of its own first
abbrev pub free : List ℕ → State → Stepped
free word s =
    if slice_index word 0 == 36 then keyword word s
    else if s.is_data then change (slice_index word 0) word s
    else no_edge s

abbrev pub scale_made_by : Count → Option UnitOf → State → Stepped
scale_made_by count None s = Err cause.Scale
scale_made_by count (Some unit) s = no_edge (record s { section = section.Skipped; scale = Some (record { count = count; unit = unit }) })

abbrev pub scale_made : Count → List ℕ → State → Stepped
scale_made count word s = scale_made_by count (unit_of word) s

abbrev pub scale_begun : Option (Count × List ℕ) → State → Stepped
scale_begun None s = Err cause.Scale
scale_begun (Some c) s = if length c.1 == 0 then no_edge (record s { section = section.Unit c.0 }) else scale_made c.0 c.1 s

abbrev pub is_none : Option (List ℕ) → Bool
is_none None = true
is_none (Some id) = false

-- the first variable of one bit of the name that is asked for
abbrev pub after_name : Bool → List ℕ → State → State
after_name is_bit word s =
    if is_bit && is_none s.id && ((length s.name == 0) || bytes_eq word s.name) then record s { section = section.Skipped; id = Some s.candidate }
    else record s { section = section.Skipped }

-- a variable has a type, a size, an identifier and a name
abbrev pub in_field : DefinitionField → List ℕ → State → State
in_field field.Kind word s = record s { section = section.Variable field.Size }
in_field field.Size word s = record s { section = section.Variable (field.Id (bytes_eq word (codes "1"))) }
in_field (field.Id is_bit) word s = record s { section = section.Variable (field.Name is_bit); candidate = word }
in_field (field.Name is_bit) word s = after_name is_bit word s

abbrev pub in_section : Section → List ℕ → State → Stepped
in_section section.Free word s = free word s
in_section section.Skipped word s = if is_end word then no_edge (record s { section = section.Free }) else no_edge s
in_section section.Scale word s = scale_begun (counted_word word) s
in_section (section.Unit count) word s = scale_made count word s
in_section (section.Variable field) word s = if is_end word then Err cause.Word else no_edge (in_field field word s)
in_section (section.Value value) word s = no_edge (after_value value word (record s { section = section.Free }))

abbrev pub took : List ℕ → State → Stepped
took word s = if length word == 0 then no_edge s else in_section s.section word s

-- ---- a dump

-- a dump ends with its last time, after its definitions
abbrev pub end_by : Bool → ℕ → Result ℕ Cause
end_by true at = Ok at
end_by false at = Err cause.End

-- a dump is read word by word
abbrev pub dump_form : Form State
dump_form = record {
  is_gap = is_space;
  took = λ number word s. at_word number (took word s);
  track = λ s. s.track;
  ended = λ s. end_by s.is_data s.track.at;
}

-- what is read of a dump, and its wire of this name
abbrev pub edges_in : List ℕ → List ℕ → Result Captured (At Cause)
edges_in name text = lines_read dump_form 1 (lines_of text) (first_state name)
