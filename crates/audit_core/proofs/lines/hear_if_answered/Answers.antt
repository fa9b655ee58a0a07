use Rattle.std.proofs.Common.{◌≡◌, ℕ, Bool, true, [], ◌∷◌, if◌then◌else◌, ap, sym, ◌∙◌}
use Rattle.audit_remarks.specs.Requests.{is_late, waited}
use Rattle.audit_notes.specs.Lines.AuditLine.{Note}
use Rattle.audit_notes.specs.declared.note.AuditNote.TheVariants.{LateAnswer}
use Rattle.audit_core.proofs.Writing.{heard_as}
use Rattle.audit_core.proofs.lines.hear_if_answered.Goals as goal

pub returns : goal.returns
returns g c =
    let late : is_late c.args.begin c.args.request ≡ true = sym c.is_late.ensures ∙ c.if-not-is_late.false in
    heard_as g.H.LineHearer.hears c.args.out.now c.note.new.self _ _
    (ap (λ (n : ℕ). Note (LateAnswer n) ∷ []) c.waited.ensures ∙ ap (λ (b : Bool). if b then Note (LateAnswer (waited c.args.begin c.args.request)) ∷ [] else []) (sym late)) c.note.ensures
