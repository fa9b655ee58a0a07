use Rattle.std.proofs.Common.{◌≡◌, Bool, true, false, if◌then◌else◌, ap, sym, ◌∙◌}
use Rattle.audit_remarks.specs.Requests.{is_answer}
use Rattle.audit_core.specs.Lines.{if_answered, if_given_up}
use Rattle.audit_core.proofs.Writing.{heard_as}
use Rattle.audit_core.proofs.lines.hear_answer.Goals as goal

pub returns-then-is_answer : goal.returns-then-is_answer
returns-then-is_answer g c =
    let is : is_answer c.args.first c.args.sent.now c.args.request ≡ true = sym c.is_answer.ensures ∙ c.if-is_answer.true in
    heard_as g.H.LineHearer.hears c.args.out.now c.hear_if_answered.new.out _ _ (ap (λ (b : Bool). if b then if_answered c.args.first c.args.request else if_given_up c.args.begin c.args.frame.now c.args.request) (sym is)) c.hear_if_answered.ensures

pub returns : goal.returns
returns g c =
    let is : is_answer c.args.first c.args.sent.now c.args.request ≡ false = sym c.is_answer.ensures ∙ c.if-is_answer.false in
    heard_as g.H.LineHearer.hears c.args.out.now c.hear_if_given_up.new.out _ _ (ap (λ (b : Bool). if b then if_answered c.args.first c.args.request else if_given_up c.args.begin c.args.frame.now c.args.request) (sym is)) c.hear_if_given_up.ensures
