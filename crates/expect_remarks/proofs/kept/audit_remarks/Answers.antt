use Rattle.std.proofs.Common.{false, ap, List, ◌++◌, ◌∙◌}
use Rattle.line_reading.specs.Windows.{standard}
use Rattle.capture_core.specs.Edges.{line_of_edges}
use Rattle.capture_monitor.specs.Watch.{captured_by}
use Rattle.capture_monitor.proofs.ReadBy.{standard_readings}
use Rattle.audit_notes.specs.declared.note.AuditNote.{AuditNote}
use Rattle.audit_core.specs.Audit.{audit_lines}
use Rattle.expect_remarks.specs.Kept.{remarks_of}
use Rattle.expect_remarks.proofs.kept.audit_remarks.Goals as goal

pub returns : goal.returns
returns c =
    let capture = c.args.capture.now in
    c.in_ok-notes.ensures.1 ∙ (c.hear_audit.ensures c.in_ok-notes.ensures.0).1
    ∙ ap (λ (first : List AuditNote). first ++ remarks_of (audit_lines false capture (captured_by standard capture))) c.none-remarks.ensures
    ∙ ap (λ xs. remarks_of (audit_lines false capture xs)) (standard_readings (line_of_edges capture.edges) capture.end)
