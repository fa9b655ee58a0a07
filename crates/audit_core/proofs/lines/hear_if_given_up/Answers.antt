use Rattle.std.proofs.Common.{◌≡◌, Bool, true, [], ◌∷◌, if◌then◌else◌, ap, sym, ◌∙◌}
use Rattle.audit_remarks.specs.Requests.{is_given_up}
use Rattle.audit_notes.specs.Lines.AuditLine.{Note}
use Rattle.audit_notes.specs.declared.note.AuditNote.TheVariants.{NoAnswer}
use Rattle.audit_core.proofs.Writing.{heard_as}
use Rattle.audit_core.proofs.lines.hear_if_given_up.Goals as goal

pub returns : goal.returns
returns g c =
    let over : is_given_up c.args.begin c.args.frame.now c.args.request ≡ true = sym c.is_given_up.ensures ∙ c.if-not-is_given_up.false in
    heard_as g.H.LineHearer.hears c.args.out.now c.note.new.self _ _ (ap (λ (b : Bool). if b then Note (NoAnswer c.args.request) ∷ [] else []) (sym over)) c.note.ensures
