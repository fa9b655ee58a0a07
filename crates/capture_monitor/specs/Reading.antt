-- What a reader of edge files returns (own).
use Rattle.std.specs.Prelude.{◌≡◌, ℕ, Result, Ok, Err}
use Rattle.std.specs.Global.{Vec}
use Rattle.line_wave.specs.declared.Edge.{Edge}
use Rattle.capture_core.specs.Edges.{Captured}
use Rattle.capture_monitor.specs.EdgeFile.{EdgeFile}
use Rattle.capture_monitor.specs.Watch.{as_file}
use Rattle.capture_monitor.specs.declared.edge_file.EdgeFault.{EdgeFault}
use Rattle.capture_monitor.specs.declared.edge_file.EdgeFault.TheVariants as fault
use Rattle.capture_monitor.specs.declared.reading.EdgeError.{EdgeError}
use Rattle.capture_monitor.specs.declared.reading.EdgeError.TheVariants.{Line, Order, Memory}

abbrev pub fault_reported : EdgeFault → EdgeError
fault_reported (fault.Line line word) = Line line word
fault_reported (fault.Order line word) = Order line word

-- a capture is what is read, and a fault is the one of the text; of memory nothing is said
abbrev pub GivesFile : Result Captured EdgeError → Result EdgeFile EdgeFault → Type 0
GivesFile (Ok c) read = read ≡ Ok (as_file c)
GivesFile (Err (Line line word)) read = read ≡ Err (fault.Line line word)
GivesFile (Err (Order line word)) read = read ≡ Err (fault.Order line word)
GivesFile (Err Memory) read = Unit {0}

-- the same of edges and an end
abbrev pub GivesEdges : Result (Vec Edge × ℕ) EdgeError → Result EdgeFile EdgeFault → Type 0
GivesEdges (Ok c) read = read ≡ Ok (record { edges = c.0.items; end = c.1 })
GivesEdges (Err (Line line word)) read = read ≡ Err (fault.Line line word)
GivesEdges (Err (Order line word)) read = read ≡ Err (fault.Order line word)
GivesEdges (Err Memory) read = Unit {0}
