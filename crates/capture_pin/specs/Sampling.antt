-- The line that a pin file reports: at an instant it has the level of the last event of the CEC pin at or before it. Times
-- are nanoseconds here, and nothing is said of edges and faults.
use Rattle.std.specs.Prelude.{◌≡◌, ℕ, ◌+◌, ◌-◌, ◌/◌, ◌≤◌, Bool, false, if◌then◌else◌, List, [], ◌∷◌, ◌++◌, Option, Some, None, IfSome, Ok}
use Rattle.std.specs.Option.{option_to_list}
use Rattle.text_core.specs.Lines.{lines_of, is_skipped}
use Rattle.line_wave.specs.Bounds.{latest_instant}
use Rattle.capture_core.specs.Edges.{Captured, IsCapture, line_of_edges}
use Rattle.capture_core.specs.Samples.{Level, level_of}
use Rattle.capture_core.specs.Reading.{LinesGoOn, Step}
use Rattle.capture_pin.specs.Pin.{edges_in, event_of, pin_form, start_in_comment, took}
use Rattle.capture_pin.specs.declared.line.PinEvent.{PinEvent}
use Rattle.capture_pin.specs.declared.reader.PinReader.{PinReader}

abbrev pub or_start : Option ℕ → ℕ → ℕ
or_start None start = start
or_start (Some noted) start = noted

-- the start of what stands after a line
abbrev pub start_after : List ℕ → ℕ → ℕ
start_after line start = if is_skipped line then or_start (start_in_comment line) start else start

abbrev pub event_in : List ℕ → Option PinEvent
event_in line = if is_skipped line then None else event_of line

abbrev pub level_reported : ℕ → Option Bool → Option Level
level_reported since None = None
level_reported since (Some low) = Some (record { since = since; low = low })

-- events of other pins give no level
abbrev pub level_by : ℕ → Option PinEvent → Option Level
level_by start None = None
level_by start (Some e) = level_reported (e.nanos - start) e.low

abbrev pub levels_in : ℕ → List (List ℕ) → List Level
levels_in start [] = []
levels_in start (line ∷ lines) = option_to_list (level_by start (event_in line)) ++ levels_in (start_after line start) lines

abbrev pub time_by : ℕ → Option PinEvent → ℕ → ℕ
time_by start None time = time
time_by start (Some e) time = e.nanos - start

-- the time of the last event
abbrev pub last_time : ℕ → ℕ → List (List ℕ) → ℕ
last_time time start [] = time
last_time time start (line ∷ lines) = last_time (time_by start (event_in line) time) (start_after line start) lines

pub record IsSampled (text : List ℕ) (e : Captured) : Type 0 where
  pub line : (u : ℕ) → line_of_edges e.edges u ≡ level_of false (levels_in 0 (lines_of text)) u
  pub end : e.end ≡ (last_time 0 0 (lines_of text) + 999) / 1000
  pub capture : IsCapture e.edges e.end

-- A pin file that is read is its line, sampled: each microsecond has the level at its first instant, and the capture ends
-- with the last event.
abbrev pub PinFilesAreSampled : Type 0
PinFilesAreSampled = (text : List ℕ) (e : Captured) → edges_in text ≡ Ok e → IsSampled text e

-- ---- a file that is read line by line

-- What is left of a file that is read goes on from where the reader stands.
abbrev pub PinLinesGoOn : Type 0
PinLinesGoOn = LinesGoOn pin_form

-- The reader, and the edge that is known by a line, stay within the limit.
abbrev pub PinLinesAreEarly : Type 0
PinLinesAreEarly = (line : List ℕ) (r : PinReader) (step : Step PinReader) → r.track.at ≤ latest_instant → took line r ≡ Ok step
    → (step.state.track.at ≤ latest_instant) × IfSome step.edge (λ e. e.at ≤ latest_instant)
