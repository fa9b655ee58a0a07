use Rattle.std.proofs.Common.{◌≡◌, ◌∷◌, List, ap, subst, ◌∙◌}
use Rattle.line_wave.specs.declared.Edge.{Edge}
use Rattle.line_reading.specs.Reports.{listed_as}
use Rattle.audit_notes.specs.Lines.AuditLine.{Reading}
use Rattle.audit_core.specs.Audit.{Tape, remark_lines, tape_after, tape_at}
use Rattle.audit_core.proofs.Writing.{heard_as}
use Rattle.audit_core.proofs.whole.WholeAudit.report.Goals as goal

pub returns-clause-kept : goal.returns-clause-kept
returns-clause-kept g c =
    let x = listed_as c.args.reading.now in
    subst (λ (es : List Edge). tape_at es c.remark.new.self ≡ tape_after x (tape_at es c.come_to.new.self.auditor)) c.edges.ensures c.remark.ensures.kept
    ∙ ap (tape_after x) c.come_to.ensures

pub returns-clause-written : goal.returns-clause-written
returns-clause-written g c =
    let x = listed_as c.args.reading.now in
    heard_as g.H.LineHearer.hears c.args.out.now c.remark.new.out _ _
    (ap (λ (es : List Edge). Reading x ∷ remark_lines c.args.timing (tape_at es c.come_to.new.self.auditor) x) c.edges.ensures
    ∙ ap (λ (t : Tape). Reading x ∷ remark_lines c.args.timing t x) c.come_to.ensures)
    (g.met.H.LineHearer.then c.args.out.now c.reading.new.self c.remark.new.out _ _ c.reading.ensures c.remark.ensures.written)
