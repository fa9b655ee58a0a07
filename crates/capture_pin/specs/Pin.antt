-- A file of pin events as cec-ctl stores it (v4l-utils, `--store-pin`): a line an event, of which those of the CEC pin
-- give the level of the bus; lines that are empty or begin with `#` are passed over, but for the start that they give.
use Rattle.std.specs.Prelude.{◌≡◌, ℕ, ◌+◌, ◌-◌, ◌*◌, ◌==◌, ◌&&◌, ◌||◌, Bool, true, false, nat_lt, nat_le, if◌then◌else◌, List, [], ◌∷◌, length, take, drop, slice_index, codes, Option, Some, None, Result, Ok, Err}
use Rattle.std.specs.Option.{is_none, is_some}
use Rattle.std.specs.List.{position_or_len}
use Rattle.std.specs.Str.{bytes_eq}
use Rattle.text_core.specs.Lines.{lines_of, is_skipped}
use Rattle.text_core.specs.Number.{number_of}
use Rattle.text_core.specs.declared.at.At.{At}
use Rattle.capture_core.specs.Edges.{Captured}
use Rattle.capture_core.specs.Seconds.{decimals_of, dot_in, instant_of}
use Rattle.capture_core.specs.Track.{Moved, first_track as line_begun, track_move, with_level}
use Rattle.capture_core.specs.Reading.{Form, Step, at_word, lines_read}
use Rattle.capture_core.specs.declared.fault.Cause.{Cause}
use Rattle.capture_core.specs.declared.fault.Cause.TheVariants as cause
use Rattle.capture_core.specs.declared.track.Track.{Track}
use Rattle.capture_pin.specs.declared.line.PinEvent.{PinEvent}
use Rattle.capture_pin.specs.declared.reader.PinReader.{PinReader}

-- ---- a line

-- nine digits, in nanoseconds
abbrev pub fraction_of : List ℕ → Option ℕ
fraction_of text = if length text == 9 then decimals_of text else None

-- 0 and 1: the CEC pin is low, high; 2 to 5: other pins; 65,536 more where events were lost before
abbrev pub code_by : Option ℕ → Option (Option Bool)
code_by None = None
code_by (Some code) =
    if (code == 0) || (code == 65536) then Some (Some true)
    else if (code == 1) || (code == 65537) then Some (Some false)
    else if nat_le code 5 || (nat_le 65538 code && nat_le code 65541) then Some None
    else None

abbrev pub code_of : List ℕ → Option (Option Bool)
code_of word = code_by (number_of word)

abbrev pub nanos_by : Option ℕ → Option ℕ → Option ℕ
nanos_by None nanos = None
nanos_by (Some whole) None = None
nanos_by (Some whole) (Some nanos) = Some (whole * 1000000000 + nanos)

abbrev pub nanos_of : List ℕ → List ℕ → Option ℕ
nanos_of seconds fraction = nanos_by (number_of seconds) (fraction_of fraction)

abbrev pub event_by : Option ℕ → Option (Option Bool) → Option PinEvent
event_by None low = None
event_by (Some nanos) None = None
event_by (Some nanos) (Some low) = Some (record { nanos = nanos; low = low })

abbrev pub event_cut : List ℕ → List ℕ → Option PinEvent
event_cut seconds rest = if slice_index rest 9 == 32 then event_by (nanos_of seconds (take 9 rest)) (code_of (drop 10 rest)) else None

abbrev pub event_of : List ℕ → Option PinEvent
event_of line = event_cut (take (dot_in line) line) (drop (dot_in line + 1) line)

abbrev pub word_start : List ℕ → Option ℕ
word_start word = nanos_of (take (dot_in word) word) (drop (dot_in word + 1) word)

-- a comment that gives the start
abbrev pub start_in_comment : List ℕ → Option ℕ
start_in_comment line = if bytes_eq (take 18 line) (codes "# start_monotonic ") then word_start (drop 18 line) else None

-- ---- where a reader stands

abbrev pub first_reader : PinReader
first_reader = record { start = 0; track = line_begun }

abbrev pub Stepped : Type 0
Stepped = Result (Step PinReader) Cause

abbrev pub track_with_level : Option Bool → Track → Track
track_with_level None t = t
track_with_level (Some low) t = with_level low t

abbrev pub moved_by : Option Moved → Option Bool → PinReader → Stepped
moved_by None low r = Err cause.Order
moved_by (Some m) low r = Ok (record { state = record { start = r.start; track = track_with_level low m.track }; edge = m.edge })

-- an event of another pin is a time alone
abbrev pub moved_to : Option ℕ → Option Bool → PinReader → Stepped
moved_to None low r = Err cause.Late
moved_to (Some u) low r = moved_by (track_move u r.track) low r

-- no event comes before the start
abbrev pub event_by_start : Bool → PinEvent → PinReader → Stepped
event_by_start true e r = Err cause.Order
event_by_start false e r = moved_to (instant_of (e.nanos - r.start)) e.low r

abbrev pub after_event : Option PinEvent → PinReader → Stepped
after_event None r = Err cause.Word
after_event (Some e) r = event_by_start (nat_lt e.nanos r.start) e r

abbrev pub reader_with_start : Option ℕ → PinReader → PinReader
reader_with_start None r = r
reader_with_start (Some start) r = record r { start = start }

abbrev pub took : List ℕ → PinReader → Stepped
took line r = if is_skipped line then Ok (record { state = reader_with_start (start_in_comment line) r; edge = None }) else after_event (event_of line) r

-- ---- a file

-- the word at fault of a line that is refused: its code, where that is none after a time, and else its time
abbrev pub space_in : List ℕ → ℕ
space_in line = position_or_len (λ b. b == 32) line

abbrev pub word_at_fault : List ℕ → ℕ
word_at_fault line = if is_some (word_start (take (space_in line) line)) && is_none (code_of (drop (space_in line + 1) line)) then 1 else 0

-- a line is taken as it stands; a file ends with its last event
abbrev pub pin_form : Form PinReader
pin_form = record {
  is_gap = λ byte. false;
  took = λ number line r. at_word (word_at_fault line) (took line r);
  track = λ r. r.track;
  ended = λ r. Ok r.track.at;
}

abbrev pub edges_in : List ℕ → Result Captured (At Cause)
edges_in text = lines_read pin_form 1 (lines_of text) first_reader
