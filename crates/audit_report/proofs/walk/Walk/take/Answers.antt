use Rattle.std.proofs.Common.{List, ap, sym, ◌∙◌}
use Rattle.line_wave.specs.declared.Edge.{Edge}
use Rattle.line_reading.specs.Reports.{listed_as}
use Rattle.audit_core.specs.Audit.{tape_at}
use Rattle.audit_report.specs.Report.{kept_of}
use Rattle.audit_report.proofs.Measuring.{kept_as, taken_as}
use Rattle.audit_report.proofs.walk.Walk.take.Goals as goal

pub returns : goal.returns
returns c =
    let x = listed_as c.args.reading.now in
    let old = c.args.self.now in
    let edges = c.edges-edges.result.now in
    let here = c.edges-edges.ensures in
    let said = c.remark.ensures.written in
    let rows = c.remark.new.out.hearer.rows in
    let remarked = c.remark.new.out.remarked in
    let contents = c.note.new.self in
    ap (λ (es : List Edge). kept_as (tape_at es c.remark.new.self) rows contents remarked) (sym here)
    ∙ taken_as x (kept_of old) (tape_at edges old.auditor) (tape_at edges c.remark.new.self) c.measure.new.self.parties c.measure.new.self.rows rows contents remarked
    (ap (λ (es : List Edge). tape_at es old.auditor) (here ∙ c.go_to.ensures)) c.measure.ensures.parties c.measure.ensures.rows c.remark.ensures.kept said.0.1 c.note.ensures said.1
