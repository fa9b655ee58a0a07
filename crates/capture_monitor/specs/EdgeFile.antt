-- Edge files (own). A line `T 0` is a fall, `T 1` a rise, `T end` the end; lines that are
-- empty or begin with `#` are skipped, but counted. A line at fault is given with its word at fault: its number from 0; where
-- one is missing, the number that it would have.
use Rattle.std.specs.Prelude.{◌≡◌, ℕ, ◌+◌, ◌<◌, ◌≤◌, Bool, true, false, not, nat_le, ◌&&◌, if◌then◌else◌, List, [], ◌∷◌, length, codes, Option, Some, None, Result, Ok, Err}
use Rattle.std.specs.Str.{bytes_eq}
use Rattle.line_wave.specs.Bounds.{latest_instant}
use Rattle.line_wave.specs.declared.Edge.{Edge as EdgeOf}
use Rattle.capture_core.specs.Edges.{AreInTurn, EndBy}
use Rattle.text_core.specs.Lines.{lines_of, is_skipped}
use Rattle.text_core.specs.Number.{number_of}
use Rattle.text_core.specs.Words.{words_of}
use Rattle.capture_monitor.specs.declared.edge_file.EdgeLine.{EdgeLine}
use Rattle.capture_monitor.specs.declared.edge_file.EdgeLine.TheVariants.{Edge, End}
use Rattle.capture_monitor.specs.declared.edge_file.EdgeFault.{EdgeFault}
use Rattle.capture_monitor.specs.declared.edge_file.EdgeFault.TheVariants as fault
use Rattle.capture_monitor.specs.declared.edge_file.EdgeLines.{EdgeLines}

-- ---- a line: what it says, or its first word at fault

-- a time, in microseconds, within the limit
abbrev pub within : Option ℕ → Option ℕ
within None = None
within (Some t) = if nat_le t latest_instant then Some t else None

abbrev pub time_of : List ℕ → Option ℕ
time_of word = within (number_of word)

abbrev pub edge_line_at : ℕ → List ℕ → Result EdgeLine ℕ
edge_line_at at mark =
    if bytes_eq mark (codes "0") then Ok (Edge (record { at = at; low = true }))
    else if bytes_eq mark (codes "1") then Ok (Edge (record { at = at; low = false }))
    else if bytes_eq mark (codes "end") then Ok (End at)
    else Err 1

-- nothing stands after the two words
abbrev pub line_alone : Result EdgeLine ℕ → List (List ℕ) → Result EdgeLine ℕ
line_alone (Err word) words = Err word
line_alone (Ok line) [] = Ok line
line_alone (Ok line) (word ∷ words) = Err 2

abbrev pub marked_by : Option ℕ → List (List ℕ) → Result EdgeLine ℕ
marked_by None words = Err 0
marked_by (Some at) [] = Err 1
marked_by (Some at) (mark ∷ words) = line_alone (edge_line_at at mark) words

abbrev pub line_by : List (List ℕ) → Result EdgeLine ℕ
line_by [] = Err 0
line_by (time ∷ words) = marked_by (time_of time) words

abbrev pub edge_line_of : List ℕ → Result EdgeLine ℕ
edge_line_of line = line_by (words_of line)

-- ---- a file

-- an edge file: its edges, and the instant with which it ends
pub record EdgeFile : Type 0 where
  pub edges : List EdgeOf
  pub end : ℕ

abbrev pub with_edge : EdgeOf → Result EdgeFile EdgeFault → Result EdgeFile EdgeFault
with_edge e (Ok f) = Ok (record { edges = e ∷ f.edges; end = f.end })
with_edge e (Err fault) = Err fault

abbrev pub with_edges : List EdgeOf → Result EdgeFile EdgeFault → Result EdgeFile EdgeFault
with_edges [] r = r
with_edges (e ∷ es) r = with_edge e (with_edges es r)

-- of a line that stands after the end, its word at fault; of one that has none, its first word
abbrev pub word_past : Result EdgeLine ℕ → ℕ
word_past (Err word) = word
word_past (Ok line) = 0

-- nothing stands after the end
abbrev pub end_read : List (List ℕ) → ℕ → ℕ → Result EdgeFile EdgeFault
end_read [] number t = Ok (record { edges = []; end = t })
end_read (line ∷ lines) number t = if is_skipped line then end_read lines (number + 1) t else Err (fault.Line number (word_past (edge_line_of line)))

-- an edge turns the line, at `from` or later; the end is not before the last edge
abbrev pub turns : Bool → EdgeOf → Bool
turns is_low e = if e.low then not is_low else is_low

abbrev pub is_in_turn : Bool → ℕ → EdgeOf → Bool
is_in_turn is_low from e = turns is_low e && nat_le from e.at

-- else its level is at fault, where it does not turn the line, or its time
abbrev pub word_out_of_turn : Bool → EdgeOf → ℕ
word_out_of_turn is_low e = if turns is_low e then 0 else 1

abbrev pub read_line : ℕ → Bool → ℕ → Result EdgeLine ℕ → (EdgeOf → Result EdgeFile EdgeFault) → (ℕ → Result EdgeFile EdgeFault) → Result EdgeFile EdgeFault
read_line number is_low from (Err word) more last = Err (fault.Line number word)
read_line number is_low from (Ok (Edge e)) more last = if is_in_turn is_low from e then with_edge e (more e) else Err (fault.Order number (word_out_of_turn is_low e))
read_line number is_low from (Ok (End t)) more last = if nat_le from (t + 1) then last t else Err (fault.Order number 0)

-- what lines are read as, of which the first has this number, where the line of the bus is low or not and may change
-- at `from` or later
abbrev pub edges_read : List (List ℕ) → ℕ → Bool → ℕ → Result EdgeFile EdgeFault
edges_read [] number is_low from = Err (fault.Line number 0)
edges_read (line ∷ lines) number is_low from =
    if is_skipped line then edges_read lines (number + 1) is_low from
    else read_line number is_low from (edge_line_of line) (λ e. edges_read lines (number + 1) e.low (e.at + 1)) (λ t. end_read lines (number + 1) t)

-- what a text is read as
abbrev pub file_of : List ℕ → Result EdgeFile EdgeFault
file_of text = edges_read (lines_of text) 1 false 0

-- What is left of a file that is read goes on from where the line of the bus stands: edges in turn, and an end that is not
-- before them, within the limit.
abbrev pub EdgeLinesGoOn : Type 0
EdgeLinesGoOn = (lines : List (List ℕ)) (number : ℕ) (is_low : Bool) (from : ℕ) (f : EdgeFile) → edges_read lines number is_low from ≡ Ok f
    → AreInTurn is_low from f.edges × EndBy f.end f.edges × (from ≤ f.end + 1) × (f.end ≤ latest_instant)

-- ---- a reader of the lines

-- what is left of the file, by the lines that are left
abbrev pub file_left : EdgeLines → Result EdgeFile EdgeFault
file_left l = edges_read (lines_of l.rest.now) l.number l.is_low l.from

-- nothing stands after an end, or a line that is not skipped
abbrev pub EndsSo : List (List ℕ) → ℕ → ℕ → Result EdgeLine EdgeFault → Type 0
EndsSo lines number t (Ok line) = (line ≡ End t) × (end_read lines number t ≡ Ok (record { edges = []; end = t }))
EndsSo lines number t (Err fault) = end_read lines number t ≡ Err fault

-- what a line of this number leads to, which is not skipped, where these lines are left after it
abbrev pub left_after : ℕ → List ℕ → EdgeLines → Result EdgeFile EdgeFault
left_after number line l =
    read_line number l.is_low l.from (edge_line_of line) (λ e. edges_read (lines_of l.rest.now) l.number e.low (e.at + 1)) (λ t. end_read (lines_of l.rest.now) l.number t)

pub record TakesEdge (number : ℕ) (line : List ℕ) (old : EdgeLines) (e : EdgeOf) (new : EdgeLines) : Type 0 where
  pub file : left_after number line old ≡ with_edge e (file_left new)
  pub level : new.is_low ≡ e.low
  pub from : new.from ≡ e.at + 1
  pub after : old.from ≤ e.at
  pub early : e.at ≤ latest_instant
  pub rest : new.rest.now ≡ old.rest.now
  pub count : new.number ≡ old.number

abbrev pub ReadsLine : ℕ → List ℕ → EdgeLines → Result EdgeLine EdgeFault → EdgeLines → Type 0
ReadsLine number line old (Ok (Edge e)) new = TakesEdge number line old e new
ReadsLine number line old (Ok (End t)) new = (left_after number line old ≡ Ok (record { edges = []; end = t })) × (old.from ≤ t + 1) × (t ≤ latest_instant)
ReadsLine number line old (Err fault) new = left_after number line old ≡ Err fault

-- it goes on after an edge, and counts the lines that it took
pub record GoesAfter (old : EdgeLines) (e : EdgeOf) (new : EdgeLines) : Type 0 where
  pub file : file_left old ≡ with_edge e (file_left new)
  pub level : new.is_low ≡ e.low
  pub from : new.from ≡ e.at + 1
  pub after : old.from ≤ e.at
  pub early : e.at ≤ latest_instant
  pub shorter : length new.rest.now < length old.rest.now
  pub room : new.number + length new.rest.now ≤ old.number + length old.rest.now

abbrev pub ReadsOn : EdgeLines → Result EdgeLine EdgeFault → EdgeLines → Type 0
ReadsOn old (Ok (Edge e)) new = GoesAfter old e new
ReadsOn old (Ok (End t)) new = (file_left old ≡ Ok (record { edges = []; end = t })) × (old.from ≤ t + 1) × (t ≤ latest_instant)
ReadsOn old (Err fault) new = file_left old ≡ Err fault
