-- What a capture of each form is read as, and what is wrong with it (own).
use Rattle.std.specs.Prelude.{ℕ, List, Result, Ok, Err}
use Rattle.text_core.specs.declared.at.At.{At}
use Rattle.capture_core.specs.Edges.{Captured}
use Rattle.capture_core.specs.declared.fault.Cause.TheVariants.{Line, Order}
use Rattle.capture_core.specs.declared.fault.CaptureError.{CaptureError}
use Rattle.capture_core.specs.declared.fault.CaptureError.TheVariants.{Fault, Memory}
use Rattle.capture_core.specs.declared.fault.Cause.{Cause}
use Rattle.capture_csv.specs.Csv.{edges_in as csv_edges}
use Rattle.capture_monitor.specs.EdgeFile.{EdgeFile, file_of}
use Rattle.capture_monitor.specs.declared.edge_file.EdgeFault.{EdgeFault}
use Rattle.capture_monitor.specs.declared.edge_file.EdgeFault.TheVariants as edge_fault
use Rattle.capture_monitor.specs.declared.reading.EdgeError.{EdgeError}
use Rattle.capture_monitor.specs.declared.reading.EdgeError.TheVariants as edge
use Rattle.capture_pin.specs.Pin.{edges_in as pin_edges}
use Rattle.capture_vcd.specs.Dump.{edges_in as vcd_edges}
use Rattle.capture_forms.specs.declared.form.CaptureForm.{CaptureForm}
use Rattle.capture_forms.specs.declared.form.CaptureForm.TheVariants.{Edges, Vcd, Pin, Csv}

-- ---- edge files

abbrev pub edge_fault_of : EdgeFault → At Cause
edge_fault_of (edge_fault.Line line word) = record { line = line; cause = Line; word = word }
edge_fault_of (edge_fault.Order line word) = record { line = line; cause = Order; word = word }

abbrev pub of_edges : Result EdgeFile EdgeFault → Result Captured (At Cause)
of_edges (Ok f) = Ok (record { edges = f.edges; end = f.end })
of_edges (Err fault) = Err (edge_fault_of fault)

abbrev pub edge_error : EdgeError → CaptureError
edge_error (edge.Line line word) = Fault (record { line = line; cause = Line; word = word })
edge_error (edge.Order line word) = Fault (record { line = line; cause = Order; word = word })
edge_error edge.Memory = Memory

-- ---- what a text is read as

-- a signal has a name in a dump and in comma-separated values
abbrev pub capture_in : CaptureForm → List ℕ → List ℕ → Result Captured (At Cause)
capture_in Edges signal text = of_edges (file_of text)
capture_in Vcd signal text = vcd_edges signal text
capture_in Pin signal text = pin_edges text
capture_in Csv signal text = csv_edges signal text
