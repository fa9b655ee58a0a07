-- The line that a file reports: at an instant it has the level of the last row at or before it, which is that of the row before
-- where the row has a voltage between the thresholds. Times are nanoseconds here,
-- counted from the first row, and nothing is said of edges and faults.
use Rattle.std.specs.Prelude.{◌≡◌, ℕ, ◌+◌, ◌/◌, ◌≤◌, not, Bool, true, false, List, [], ◌∷◌, ◌++◌, Option, Some, None, IfSome, Ok}
use Rattle.std.specs.Option.{option_to_list}
use Rattle.text_core.specs.Lines.{lines_of}
use Rattle.line_wave.specs.Bounds.{latest_instant}
use Rattle.capture_core.specs.Edges.{Captured, IsCapture, line_of_edges}
use Rattle.capture_core.specs.Reading.{LinesGoOn, Step}
use Rattle.capture_core.specs.Track.{differ}
use Rattle.capture_core.specs.Samples.{Level, level_of}
use Rattle.capture_csv.specs.Csv.{column_of, csv_form, edges_in, ends_after, or_first, row_of, since, took}
use Rattle.capture_csv.specs.Level.{low_by}
use Rattle.capture_csv.specs.declared.column.Column.{Column}
use Rattle.capture_csv.specs.declared.row.Row.{Row}
use Rattle.capture_csv.specs.declared.row.Time.{Time}
use Rattle.capture_csv.specs.declared.reader.CsvReader.{CsvReader}

-- the rows of a column
abbrev pub rows_in : Column → List (List ℕ) → List Row
rows_in column [] = []
rows_in column (line ∷ lines) = option_to_list (row_of column line) ++ rows_in column lines

abbrev pub rows_by : Option Column → List (List ℕ) → List Row
rows_by None lines = []
rows_by (Some column) lines = rows_in column lines

abbrev pub rows_of : List ℕ → List (List ℕ) → List Row
rows_of signal [] = []
rows_of signal (line ∷ lines) = rows_by (column_of signal line) lines

abbrev pub level_reported : Option ℕ → Bool → Option Level
level_reported None low = None
level_reported (Some since) low = Some (record { since = since; low = low })

-- their levels, counted from a time, or from the first of them, and by whether the line was low before them
abbrev pub levels_of : Option Time → Bool → List Row → List Level
levels_of first was_low [] = []
levels_of first was_low (row ∷ rows) =
    option_to_list (level_reported (since (or_first first row.time) row.time) (low_by row.said was_low)) ++ levels_of (Some (or_first first row.time)) (low_by row.said was_low) rows

-- the end, by the time of the last level, and whether that was told again
abbrev pub end_by : ℕ → Bool → Bool → List Level → ℕ
end_by time is_low is_again [] = ends_after is_again ((time + 999) / 1000)
end_by time is_low is_again (l ∷ ls) = end_by l.since l.low (not (differ l.low is_low)) ls

pub record IsSampled (signal text : List ℕ) (e : Captured) : Type 0 where
  pub line : (u : ℕ) → line_of_edges e.edges u ≡ level_of false (levels_of None false (rows_of signal (lines_of text))) u
  pub end : e.end ≡ end_by 0 false true (levels_of None false (rows_of signal (lines_of text)))
  pub capture : IsCapture e.edges e.end

-- A file that is read is its column, sampled: each microsecond has the level at its first instant. The capture ends with the
-- last row, if that reports the level again, or else 10,000 microseconds after it.
abbrev pub CsvFilesAreSampled : Type 0
CsvFilesAreSampled = (signal text : List ℕ) (e : Captured) → edges_in signal text ≡ Ok e → IsSampled signal text e

-- ---- a file that is read line by line

-- What is left of a file that is read goes on from where the reader stands.
abbrev pub CsvLinesGoOn : Type 0
CsvLinesGoOn = LinesGoOn csv_form

-- The reader, and the edge that is known by a row, stay within the limit.
abbrev pub CsvLinesAreEarly : Type 0
CsvLinesAreEarly = (line : List ℕ) (r : CsvReader) (step : Step CsvReader) → r.track.at ≤ latest_instant → took line r ≡ Ok step
    → (step.state.track.at ≤ latest_instant) × IfSome step.edge (λ e. e.at ≤ latest_instant)
