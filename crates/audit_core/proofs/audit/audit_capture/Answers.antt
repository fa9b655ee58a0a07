use Rattle.std.proofs.Common.{ℕ, List, ap, subst}
use Rattle.capture_core.specs.Edges.{line_of_edges}
use Rattle.audit_core.specs.Audit.{audit_text_of}
use Rattle.text_core.specs.Cut.{WritesText}
use Rattle.capture_monitor.proofs.ReadBy.{standard_readings}
use Rattle.audit_core.proofs.audit.audit_capture.Goals as goal

pub returns : goal.returns
returns g c =
    subst (λ (t : List ℕ). WritesText (g.S.Sink.contents c.args.out.now) (g.S.Sink.contents c.audit_capture_by.new.out) (g.S.Sink.is_stuck c.args.out.now) (g.S.Sink.is_stuck c.audit_capture_by.new.out) t c.audit_capture_by.result)
    (ap (audit_text_of c.args.options.timing c.args.capture.now) (standard_readings (line_of_edges c.args.capture.now.edges) c.args.capture.now.end)) c.audit_capture_by.ensures
