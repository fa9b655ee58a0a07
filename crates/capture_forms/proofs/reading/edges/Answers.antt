use Rattle.std.proofs.Common.{ap}
use Rattle.capture_monitor.specs.EdgeFile.{file_of}
use Rattle.capture_forms.specs.Captures.{of_edges}
use Rattle.capture_forms.proofs.Returned.{edge_fault}
use Rattle.capture_forms.proofs.reading.edges.Goals as goal

pub returns-in-Ok : goal.returns-in-Ok
returns-in-Ok c = ap of_edges c.in-Ok.ensures

pub returns-in-Err : goal.returns-in-Err
returns-in-Err c = rw c.edge_error.ensures (edge_fault c.in-Err.error (file_of c.args.text.now) c.in-Err.ensures)
