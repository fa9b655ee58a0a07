use Rattle.std.proofs.Common.{ap, ap₂, sym, ◌∙◌}
use Rattle.line_reading.specs.Reports.{listed_as}
use Rattle.audit_widths.specs.Lows.{gone_to}
use Rattle.follow_audit.specs.Settled.{is_settled}
use Rattle.follow_audit.proofs.Audited.{all_but_one, all_told, known_none, known_settled}
use Rattle.follow_audit.proofs.listener.Listener.is_settled.Goals as goal

pub returns-in-None-clause-known : goal.returns-in-None-clause-known
returns-in-None-clause-known c = λ h. known_none c.args.self.now c.in-None.is

pub returns-in-None-clause-waits : goal.returns-in-None-clause-waits
returns-in-None-clause-waits c = λ h. all_told c.args.self.now c.in-None.is

pub returns-in-Some-clause-known : goal.returns-in-Some-clause-known
returns-in-Some-clause-known c = λ h.
    known_settled c.args.self.now c.in-Some.reading c.in-Some.is
    (sym (c.is_settled.ensures ∙ ap (is_settled (listed_as c.in-Some.reading)) (c.edges.ensures ∙ c.edges_from.ensures ∙ ap₂ gone_to c.later.ensures.value c.deref.ensures.value)) ∙ h)

pub returns-in-Some-clause-waits : goal.returns-in-Some-clause-waits
returns-in-Some-clause-waits c = λ h.
    all_but_one c.args.self.now c.in-Some.reading c.in-Some.is
    (sym (c.is_settled.ensures ∙ ap (is_settled (listed_as c.in-Some.reading)) (c.edges.ensures ∙ c.edges_from.ensures ∙ ap₂ gone_to c.later.ensures.value c.deref.ensures.value)) ∙ h)
