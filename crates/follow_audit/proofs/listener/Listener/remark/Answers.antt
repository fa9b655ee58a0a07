use Rattle.std.proofs.Common.{◌≡◌, List, ap₂, refl, subst, sym, ◌∙◌}
use Rattle.line_wave.specs.declared.Edge.{Edge}
use Rattle.line_reading.specs.Reports.{listed_as}
use Rattle.audit_widths.specs.Lows.{gone_to}
use Rattle.audit_core.specs.Audit.{tape_after, tape_at}
use Rattle.follow_audit.proofs.Audited.{remarked_all, remarks_all}
use Rattle.follow_audit.proofs.listener.Listener.remark.Goals as goal

pub returns-clause-remarks : goal.returns-clause-remarks
returns-clause-remarks g c =
    remarks_all c.args.self.now _ c.in-Some.reading (sym c.take.ensures.value ∙ c.in-Some.is) c.take.ensures.after refl refl c.later-self.ensures.value
    (subst (λ (es : List Edge). tape_at es c.remark.new.self ≡ tape_after (listed_as c.in-Some.reading) (tape_at es c.args.self.now.auditor))
    (c.edges.ensures ∙ c.edges_from-edges.ensures ∙ ap₂ gone_to c.later-self.ensures.value c.deref.ensures.value) c.remark.ensures.kept)

pub returns-clause-heard : goal.returns-clause-heard
returns-clause-heard g c =
    remarked_all g.H.LineHearer.hears c.args.self.now c.in-Some.reading c.args.out.now c.remark.new.out (sym c.take.ensures.value ∙ c.in-Some.is)
    (c.edges.ensures ∙ c.edges_from-edges.ensures ∙ ap₂ gone_to c.later-self.ensures.value c.deref.ensures.value) c.remark.ensures.written
