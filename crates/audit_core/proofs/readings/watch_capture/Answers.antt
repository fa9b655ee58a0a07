use Rattle.std.proofs.Common.{◌∙◌, ap, false}
use Rattle.line_reading.specs.Windows.{standard}
use Rattle.capture_core.specs.Edges.{line_of_edges}
use Rattle.capture_monitor.specs.Watch.{as_file, captured_by, file_readings, readings_text}
use Rattle.capture_monitor.proofs.ReadBy.{standard_readings}
use Rattle.record_core.specs.declared.cell.Form.TheVariants.{Text}
use Rattle.audit_notes.specs.Lines.{lines_text}
use Rattle.audit_core.proofs.AsLines.{readings_lines}
use Rattle.capture_join.specs.Joined.{joined_lines}
use Rattle.audit_core.proofs.JoinedLines.{none_joined}
use Rattle.audit_core.proofs.Writing.{written_as}
use Rattle.audit_core.proofs.readings.watch_capture.Goals as goal

pub returns : goal.returns
returns g c =
    let xs = captured_by standard c.args.capture.now in
    written_as _ _ _ _ (lines_text Text (joined_lines 0 false xs)) (readings_text (file_readings (as_file c.args.capture.now))) c.write_from.result
    (ap (lines_text Text) (none_joined false xs) ∙ readings_lines xs ∙ ap readings_text (standard_readings (line_of_edges c.args.capture.now.edges) c.args.capture.now.end)) c.write_from.ensures
