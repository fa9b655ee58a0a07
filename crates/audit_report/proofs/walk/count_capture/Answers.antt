use Rattle.std.proofs.Common.{map, ap, ap₂, ◌∙◌}
use Rattle.capture_monitor.specs.Watch.{captured_by}
use Rattle.audit_notes.specs.Lines.AuditLine.{Reading}
use Rattle.audit_report.specs.Report.{Kept, after_lines, before_all, with_end}
use Rattle.audit_report.proofs.Going.{all_counted}
use Rattle.audit_report.proofs.walk.count_capture.Goals as goal

pub returns : goal.returns
returns c =
    let capture = c.args.capture.now in
    let xs = captured_by c.args.windows capture in
    c.finish.ensures
    ∙ ap₂ with_end c.end.ensures.end
    (c.hear_readings.ensures ∙ ap (λ (k : Kept). after_lines k (map Reading xs)) (c.new-walk.ensures ∙ ap before_all c.edges.ensures.edges))
    ∙ all_counted capture xs
