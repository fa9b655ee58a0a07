-- A capture that is read line by line: what is read of the lines that are left (own).
use Rattle.std.specs.Prelude.{◌≡◌, ℕ, ◌+◌, ◌≤◌, false, nat_le, if◌then◌else◌, List, [], ◌∷◌, Option, Some, None, IfSome, Result, Ok, Err}
use Rattle.std.specs.Option.{option_to_list}
use Rattle.line_wave.specs.declared.Edge.{Edge as EdgeOf}
use Rattle.line_wave.specs.Bounds.{latest_instant}
use Rattle.text_core.specs.Lines.{is_skipped}
use Rattle.text_core.specs.declared.at.At.{At}
use Rattle.capture_core.specs.Edges.{Captured}
use Rattle.capture_core.specs.Reading.{Step, lines_read, with_edges}
use Rattle.capture_core.specs.declared.fault.Cause.TheVariants as cause
use Rattle.capture_core.specs.declared.fault.Cause.{Cause}
use Rattle.capture_csv.specs.Csv.{column_of, csv_form, named_read}
use Rattle.capture_csv.specs.Csv.{first_reader as first_rows}
use Rattle.capture_csv.specs.declared.column.Column.{Column}
use Rattle.capture_csv.specs.declared.reader.CsvReader.{CsvReader}
use Rattle.capture_pin.specs.Pin.{first_reader, pin_form}
use Rattle.capture_monitor.specs.EdgeFile.{EdgeFile, edge_line_of, edges_read, end_read, is_in_turn, word_out_of_turn, word_past}
use Rattle.capture_monitor.specs.declared.edge_file.EdgeLine.{EdgeLine}
use Rattle.capture_monitor.specs.declared.edge_file.EdgeLine.TheVariants.{Edge, End}
use Rattle.capture_monitor.specs.declared.edge_file.EdgeFault.{EdgeFault}
use Rattle.capture_forms.specs.Captures.{of_edges}
use Rattle.capture_forms.specs.declared.form.CaptureForm.{CaptureForm}
use Rattle.capture_forms.specs.declared.form.CaptureForm.TheVariants as form
use Rattle.follow_core.specs.declared.edge_lines.EdgeReader.{EdgeReader}
use Rattle.follow_core.specs.declared.lines.CaptureLines.{CaptureLines}
use Rattle.follow_core.specs.declared.lines.CaptureLines.TheVariants.{File, Pin, Names, Rows}
use Rattle.follow_core.specs.declared.lines.LineForm.{LineForm}
use Rattle.follow_core.specs.declared.lines.LineForm.TheVariants as forms
use Rattle.follow_core.specs.declared.lines.Last.{Last}

-- ---- an edge file

abbrev pub first_file : EdgeReader
first_file = record { is_low = false; from = 0; end = None }

abbrev pub file_fault : ℕ → ℕ → At Cause
file_fault line word = record { line = line; cause = cause.Line; word = word }

abbrev pub order_fault : ℕ → ℕ → At Cause
order_fault line word = record { line = line; cause = cause.Order; word = word }

-- what a line leads to that is not skipped, before the end
abbrev pub after_said : ℕ → Result EdgeLine ℕ → EdgeReader → Result (Step EdgeReader) (At Cause)
after_said number (Err word) e = Err (file_fault number word)
after_said number (Ok (Edge x)) e =
    if is_in_turn e.is_low e.from x then Ok (record { state = record { is_low = x.low; from = x.at + 1; end = None }; edge = Some x }) else Err (order_fault number (word_out_of_turn e.is_low x))
after_said number (Ok (End t)) e = if nat_le e.from (t + 1) then Ok (record { state = record e { end = Some t }; edge = None }) else Err (order_fault number 0)

-- after the end each is at fault
abbrev pub after_line : Option ℕ → ℕ → Result EdgeLine ℕ → EdgeReader → Result (Step EdgeReader) (At Cause)
after_line None number said e = after_said number said e
after_line (Some end) number said e = Err (file_fault number (word_past said))

abbrev pub took_line : ℕ → List ℕ → EdgeReader → Result (Step EdgeReader) (At Cause)
took_line number line e = if is_skipped line then Ok (record { state = e; edge = None }) else after_line e.end number (edge_line_of line) e

-- the end, which may be missing
abbrev pub end_of : Option ℕ → ℕ → Result ℕ (At Cause)
end_of None number = Err (file_fault number 0)
end_of (Some end) number = Ok end

-- what is read of the lines that are left
abbrev pub file_left : Option ℕ → EdgeReader → ℕ → List (List ℕ) → Result EdgeFile EdgeFault
file_left None e number lines = edges_read lines number e.is_low e.from
file_left (Some end) e number lines = end_read lines number end

-- ---- comma-separated values

-- where no name of the first line is the signal's, those after that of the time are at fault
abbrev pub no_signal : ℕ → At Cause
no_signal number = record { line = number; cause = cause.Signal; word = 1 }

-- a reader of the rows, by the column of the signal
abbrev pub rows_by : ℕ → Option Column → Result CsvReader (At Cause)
rows_by number None = Err (no_signal number)
rows_by number (Some column) = Ok (first_rows column)

-- what is read of the lines that are left, with the names on the first
abbrev pub rows_left : ℕ → List (List ℕ) → Result CsvReader (At Cause) → Result Captured (At Cause)
rows_left number lines (Err fault) = Err fault
rows_left number lines (Ok rows) = lines_read csv_form number lines rows

abbrev pub names_left : List ℕ → ℕ → List (List ℕ) → Result Captured (At Cause)
names_left signal number [] = Err (no_signal number)
names_left signal number (line ∷ lines) = rows_left (number + 1) lines (rows_by number (column_of signal line))

-- ---- a capture in one of the forms

abbrev pub form_as : LineForm → CaptureForm
form_as forms.Edges = form.Edges
form_as forms.Pin = form.Pin
form_as forms.Csv = form.Csv

-- what its lines are read as, of the wire of a name, and what those of them are that are left, of which the first has this number
abbrev pub lines_captured : LineForm → List ℕ → List (List ℕ) → Result Captured (At Cause)
lines_captured forms.Edges signal lines = of_edges (edges_read lines 1 false 0)
lines_captured forms.Pin signal lines = lines_read pin_form 1 lines first_reader
lines_captured forms.Csv signal lines = named_read signal lines

abbrev pub lines_left : List ℕ → CaptureLines → ℕ → List (List ℕ) → Result Captured (At Cause)
lines_left signal (File e) number lines = of_edges (file_left e.end e number lines)
lines_left signal (Pin r) number lines = lines_read pin_form number lines r
lines_left signal Names number lines = names_left signal number lines
lines_left signal (Rows r) number lines = lines_read csv_form number lines r

-- no edge that is still to come is before this instant; after the end none comes
abbrev pub from_by : Option ℕ → ℕ → ℕ
from_by None from = from
from_by (Some end) from = end + 1

abbrev pub from_of : CaptureLines → ℕ
from_of (File e) = from_by e.end e.from
from_of (Pin r) = r.track.at
from_of Names = 0
from_of (Rows r) = r.track.at

-- within the limit of a capture
abbrev pub IsEarlyFile : EdgeReader → Type 0
IsEarlyFile e = (e.from ≤ latest_instant + 1) × IfSome e.end (λ t. (e.from ≤ t + 1) × (t ≤ latest_instant))

abbrev pub IsEarly : CaptureLines → Type 0
IsEarly (File e) = IsEarlyFile e
IsEarly (Pin r) = r.track.at ≤ latest_instant
IsEarly Names = Unit {0}
IsEarly (Rows r) = r.track.at ≤ latest_instant

-- ---- what is returned

-- a line is taken: the edge that is known by it comes before what is left, or it is at fault
abbrev pub TakesLine : List ℕ → CaptureLines → ℕ → List ℕ → Result (Option EdgeOf) (At Cause) → CaptureLines → Type 0
TakesLine signal old number line (Ok edge) new =
    (rest : List (List ℕ)) → lines_left signal old number (line ∷ rest) ≡ with_edges (option_to_list edge) (lines_left signal new (number + 1) rest)
TakesLine signal old number line (Err fault) new = (rest : List (List ℕ)) → lines_left signal old number (line ∷ rest) ≡ Err fault

-- no line is left: the last edge and the end are known, whatever the name
abbrev pub EndsLines : CaptureLines → ℕ → Result Last (At Cause) → Type 0
EndsLines lines number (Ok last) = lines_left [] lines number [] ≡ Ok (record { edges = option_to_list last.edge; end = last.end })
EndsLines lines number (Err fault) = lines_left [] lines number [] ≡ Err fault
