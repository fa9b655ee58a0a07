-- What is written of an edge file: the readings of its line (own).
use Rattle.std.specs.Prelude.{◌≡◌, ℕ, Bool, true, List, Option, Result, Ok, Err}
use Rattle.std.specs.List.{flat_map}
use Rattle.std.specs.Option.{option_to_list}
use Rattle.std.specs.Io.KnownBytes.{Appends}
use Rattle.text_core.specs.declared.sink.WriteFault.{WriteFault}
use Rattle.line_frames.specs.declared.Reading.{Reading}
use Rattle.line_reading.specs.declared.times.Windows.{Windows}
use Rattle.line_reading.specs.Readings.{Listed, readings_of}
use Rattle.text_core.specs.Cut.{CutOff}
use Rattle.message_text.specs.ReadingText.{reading_line}
use Rattle.capture_core.specs.Edges.{Captured, line_of_edges}
use Rattle.capture_monitor.specs.EdgeFile.{EdgeFile, file_of}
use Rattle.capture_monitor.specs.ReadBy.{readings_by}
use Rattle.capture_monitor.specs.declared.edge_file.EdgeFault.{EdgeFault}
use Rattle.capture_monitor.specs.declared.edge_file.EdgeFault.TheVariants as fault
use Rattle.capture_monitor.specs.declared.watching.WatchError.{WatchError}
use Rattle.capture_monitor.specs.declared.watching.WatchError.TheVariants.{Line, Order, Write, Memory}

-- a reading of a line's list, as a reading by itself
abbrev pub reading_as : Listed → Reading
reading_as x = record { begin = x.begin; at = x.reported.at; ending = x.reported.ending; bits = record { items = x.reported.bits } }

-- the lines of readings
abbrev pub listed_line : Listed → List ℕ
listed_line x = reading_line (reading_as x)

abbrev pub readings_text : List Listed → List ℕ
readings_text xs = flat_map listed_line xs

abbrev pub reported_text : Option Listed → List ℕ
reported_text o = readings_text (option_to_list o)

-- the readings of a file's line, cut at its end
abbrev pub file_readings : EdgeFile → List Listed
file_readings f = readings_of (line_of_edges f.edges) f.end

abbrev pub reported_so : EdgeFault → WatchError
reported_so (fault.Line line word) = Line line word
reported_so (fault.Order line word) = Order line word

-- their lines are written, whole or their front up to a fault
abbrev pub WritesFile : Option (List ℕ) → Option (List ℕ) → Bool → Bool → EdgeFile → Result (Unit {0}) WriteFault → Type 0
WritesFile old new was is f (Ok n) = Appends old new (readings_text (file_readings f)) × (is ≡ was)
WritesFile old new was is f (Err fault) = CutOff old new (readings_text (file_readings f)) fault × (is ≡ true)

-- a capture by itself
abbrev pub as_file : Captured → EdgeFile
as_file c = record { edges = c.edges; end = c.end }

-- its readings by windows
abbrev pub captured_by : Windows → Captured → List Listed
captured_by windows c = readings_by windows (line_of_edges c.edges) c.end

-- A file without a fault has its readings written, and of another one the first line at fault is told with its word, and nothing
-- is written. Memory is never wanted.
abbrev pub Answers : Option (List ℕ) → Option (List ℕ) → Bool → Bool → List ℕ → Result (Unit {0}) WatchError → Type 0
Answers old new was is text (Ok n) = (f : EdgeFile) × (file_of text ≡ Ok f) × WritesFile old new was is f (Ok n)
Answers old new was is text (Err (Write count)) = (f : EdgeFile) × (file_of text ≡ Ok f) × WritesFile old new was is f (Err (record { count = count }))
Answers old new was is text (Err (Line line word)) = (file_of text ≡ Err (fault.Line line word)) × (new ≡ old) × (is ≡ was)
Answers old new was is text (Err (Order line word)) = (file_of text ≡ Err (fault.Order line word)) × (new ≡ old) × (is ≡ was)
Answers old new was is text (Err Memory) = ⊥
