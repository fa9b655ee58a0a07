-- What the reader of edge files returns is what is read.
use Rattle.std.proofs.Common.{Result, Err, ap}
use Rattle.capture_core.specs.Reading.{Gives}
use Rattle.capture_monitor.specs.EdgeFile.{EdgeFile}
use Rattle.capture_monitor.specs.Reading.{GivesFile}
use Rattle.capture_monitor.specs.declared.edge_file.EdgeFault.{EdgeFault}
use Rattle.capture_monitor.specs.declared.reading.EdgeError.{EdgeError}
use Rattle.capture_monitor.specs.declared.reading.EdgeError.TheVariants as edge
use Rattle.capture_forms.specs.Captures.{edge_error, of_edges}

pub edge_fault : (e : EdgeError) (read : Result EdgeFile EdgeFault) → GivesFile (Err e) read → Gives (Err (edge_error e)) (of_edges read)
edge_fault (edge.Line line word) read h = ap of_edges h
edge_fault (edge.Order line word) read h = ap of_edges h
edge_fault edge.Memory read h = tt
