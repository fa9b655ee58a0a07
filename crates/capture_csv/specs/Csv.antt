-- Comma-separated values as Saleae's Logic exports them: a line of names, of which the first is that of the time, and then a
-- row a change: a number with decimals, perhaps below zero, in the unit that its name has, or the time of the day; and a level or
-- a voltage a channel.
use Rattle.std.specs.Prelude.{ℕ, suc, zero, ◌+◌, ◌-◌, ◌==◌, ◌&&◌, ◌||◌, not, min, Bool, true, false, nat_lt, nat_le, if◌then◌else◌, List, [], ◌∷◌, length, take, drop, slice_index, Option, Some, None, Result, Ok, Err}
use Rattle.std.specs.Option.{is_none, is_some}
use Rattle.std.specs.List.{slice_split}
use Rattle.std.specs.Str.{bytes_eq}
use Rattle.line_wave.specs.Bounds.{latest_instant}
use Rattle.text_core.specs.Lines.{lines_of}
use Rattle.text_core.specs.declared.at.At.{At}
use Rattle.capture_core.specs.Edges.{Captured}
use Rattle.capture_core.specs.Seconds.{instant_of}
use Rattle.capture_core.specs.Track.{Moved, first_track as line_begun, differ, track_move, with_level}
use Rattle.capture_core.specs.Reading.{Form, Step, at_word, lines_read}
use Rattle.capture_core.specs.declared.fault.Cause.{Cause}
use Rattle.capture_core.specs.declared.fault.Cause.TheVariants as cause
use Rattle.capture_csv.specs.Clock.{clock_fraction, clock_seconds}
use Rattle.capture_csv.specs.Level.{level_of, low_by}
use Rattle.capture_csv.specs.Unit.{nanos_by, nanos_of, unit_of}
use Rattle.capture_csv.specs.declared.column.Column.{Column}
use Rattle.capture_csv.specs.declared.column.TimeUnit.{TimeUnit}
use Rattle.capture_csv.specs.declared.column.TimeUnit.TheVariants.{Seconds}
use Rattle.capture_csv.specs.declared.level.Said.{Said}
use Rattle.capture_csv.specs.declared.row.Row.{Row}
use Rattle.capture_csv.specs.declared.row.Time.{Time}
use Rattle.capture_csv.specs.declared.reader.CsvReader.{CsvReader}

-- ---- fields

abbrev pub fields_of : List ℕ → List (List ℕ)
fields_of line = slice_split (λ b. b == 44) line

abbrev pub fields_after : Option (List ℕ) → List (List ℕ)
fields_after None = []
fields_after (Some rest) = fields_of rest

abbrev pub field_at : ℕ → List (List ℕ) → Option (List ℕ)
field_at column [] = None
field_at zero (field ∷ fields) = Some field
field_at (suc column) (field ∷ fields) = field_at column fields

-- without the space before a field, and without the carriage return at the end of a line
abbrev pub field_without_space : List ℕ → List ℕ
field_without_space field = if slice_index field 0 == 32 then drop 1 field else field

abbrev pub without_return : List ℕ → List ℕ
without_return line = if slice_index line (length line - 1) == 13 then take (length line - 1) line else line

-- the column of a signal; an empty name stands for the first one
abbrev pub is_named : List ℕ → List ℕ → Bool
is_named field signal = (length signal == 0) || bytes_eq (field_without_space field) signal

abbrev pub column_from : ℕ → List ℕ → List (List ℕ) → Option ℕ
column_from column signal [] = None
column_from column signal (field ∷ fields) = if is_named field signal then Some column else column_from (column + 1) signal fields

abbrev pub after_first : List (List ℕ) → List (List ℕ)
after_first [] = []
after_first (field ∷ fields) = fields

abbrev pub first_of : List (List ℕ) → List ℕ
first_of [] = []
first_of (field ∷ fields) = field

abbrev pub with_unit : TimeUnit → Option ℕ → Option Column
with_unit unit None = None
with_unit unit (Some place) = Some (record { place = place; unit = unit })

-- the time stands at 0, and its name has the unit
abbrev pub column_in : List ℕ → List (List ℕ) → Option Column
column_in signal names = with_unit (unit_of (first_of names)) (column_from 1 signal (after_first names))

abbrev pub column_of : List ℕ → List ℕ → Option Column
column_of signal line = column_in signal (fields_of (without_return line))

-- ---- a row

abbrev pub signed_time : Bool → ℕ → Time
signed_time is_minus nanos = record { is_below = is_minus && nat_lt 0 nanos; nanos = nanos }

abbrev pub signed_by : Bool → Option ℕ → Option Time
signed_by is_minus None = None
signed_by is_minus (Some nanos) = Some (signed_time is_minus nanos)

abbrev pub counted_of : TimeUnit → List ℕ → Option Time
counted_of unit word = if slice_index word 0 == 45 then signed_by true (nanos_of unit (drop 1 word)) else signed_by false (nanos_of unit word)

abbrev pub clock_of : List ℕ → Option Time
clock_of word = signed_by false (nanos_by Seconds (clock_seconds word) (clock_fraction word))

abbrev pub time_by : Bool → TimeUnit → List ℕ → Option Time
time_by true unit word = clock_of word
time_by false unit word = counted_of unit word

-- a time of the day has the letter T after its date
abbrev pub time_of : TimeUnit → List ℕ → Option Time
time_of unit word = time_by (slice_index word 10 == 84) unit word

abbrev pub level_by : Option (List ℕ) → Option Said
level_by None = None
level_by (Some field) = level_of (field_without_space field)

abbrev pub row_by : Option Time → Option Said → Option Row
row_by None said = None
row_by (Some time) None = None
row_by (Some time) (Some said) = Some (record { time = time; said = said })

abbrev pub time_in : TimeUnit → List (List ℕ) → Option Time
time_in unit [] = None
time_in unit (word ∷ fields) = time_of unit word

abbrev pub row_in : Column → List (List ℕ) → Option Row
row_in column fields = row_by (time_in column.unit fields) (level_by (field_at column.place fields))

abbrev pub row_of : Column → List ℕ → Option Row
row_of column line = row_in column (fields_of (without_return line))

-- ---- instants

abbrev pub less : ℕ → ℕ → Option ℕ
less a b = if nat_le a b then Some (b - a) else None

-- how long a time is after the first one
abbrev pub apart : Bool → Bool → ℕ → ℕ → Option ℕ
apart true false first nanos = Some (first + nanos)
apart false true first nanos = None
apart true true first nanos = less nanos first
apart false false first nanos = less first nanos

abbrev pub since : Time → Time → Option ℕ
since first time = apart first.is_below time.is_below first.nanos time.nanos

-- ---- where a reader stands

abbrev pub first_reader : Column → CsvReader
first_reader column = record { column = column; first = None; is_again = true; is_low = false; track = line_begun }

abbrev pub Stepped : Type 0
Stepped = Result (Step CsvReader) Cause

abbrev pub moved_by : Time → Option Moved → Bool → CsvReader → Stepped
moved_by first None low r = Err cause.Order
moved_by first (Some m) low r =
    Ok (record {
      state = record { column = r.column; first = Some first; is_again = not (differ low r.is_low); is_low = low; track = with_level low m.track };
      edge = m.edge;
    })

abbrev pub moved_to : Time → Option ℕ → Bool → CsvReader → Stepped
moved_to first None low r = Err cause.Late
moved_to first (Some u) low r = moved_by first (track_move u r.track) low r

abbrev pub since_by : Time → Option ℕ → Bool → CsvReader → Stepped
since_by first None low r = Err cause.Order
since_by first (Some nanos) low r = moved_to first (instant_of nanos) low r

-- times are counted from the first row
abbrev pub or_first : Option Time → Time → Time
or_first None time = time
or_first (Some first) time = first

abbrev pub with_row : Row → CsvReader → Stepped
with_row row r = since_by (or_first r.first row.time) (since (or_first r.first row.time) row.time) (low_by row.said r.is_low) r

abbrev pub took_by : Option Row → CsvReader → Stepped
took_by None r = Err cause.Word
took_by (Some row) r = with_row row r

abbrev pub took : List ℕ → CsvReader → Stepped
took line r = took_by (row_of r.column line) r

-- ---- a file

-- the form has no end: a level that is reported again ends it, or it goes on for 10,000 microseconds, within the limit
abbrev pub ends_after : Bool → ℕ → ℕ
ends_after is_again at = if is_again then at else min (at + 10000) latest_instant

abbrev pub end_of : CsvReader → ℕ
end_of r = ends_after r.is_again r.track.at

-- the word at fault of a row that is refused: its level, where that is none after a time, and else its time
abbrev pub fault_in : Column → List (List ℕ) → ℕ
fault_in column fields = if is_some (time_in column.unit fields) && is_none (level_by (field_at column.place fields)) then column.place else 0

abbrev pub word_at_fault : Column → List ℕ → ℕ
word_at_fault column line = fault_in column (fields_of (without_return line))

-- a line is taken as it stands
abbrev pub csv_form : Form CsvReader
csv_form = record {
  is_gap = λ byte. false;
  took = λ number line r. at_word (word_at_fault r.column line) (took line r);
  track = λ r. r.track;
  ended = λ r. Ok (end_of r);
}

-- where no name is the signal's, those after that of the time are at fault
abbrev pub no_signal : At Cause
no_signal = record { line = 1; cause = cause.Signal; word = 1 }

abbrev pub column_read : Option Column → List (List ℕ) → Result Captured (At Cause)
column_read None lines = Err no_signal
column_read (Some column) lines = lines_read csv_form 2 lines (first_reader column)

abbrev pub named_read : List ℕ → List (List ℕ) → Result Captured (At Cause)
named_read signal [] = Err no_signal
named_read signal (line ∷ lines) = column_read (column_of signal line) lines

abbrev pub edges_in : List ℕ → List ℕ → Result Captured (At Cause)
edges_in signal text = named_read signal (lines_of text)
