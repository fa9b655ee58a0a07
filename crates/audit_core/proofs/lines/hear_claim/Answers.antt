use Rattle.std.proofs.Common.{◌≡◌, Bool, true, [], ◌∷◌, if◌then◌else◌, ap, sym, ◌∙◌}
use Rattle.audit_remarks.specs.Sources.{is_unreported}
use Rattle.audit_notes.specs.Lines.AuditLine.{Note}
use Rattle.audit_notes.specs.declared.note.AuditNote.TheVariants.{Unreported}
use Rattle.audit_core.proofs.Writing.{heard_as}
use Rattle.audit_core.proofs.lines.hear_claim.Goals as goal

pub returns : goal.returns
returns g c =
    let new : is_unreported c.args.sources.now.reported.items c.args.claim.phys ≡ true = sym c.is_unreported.ensures ∙ c.if-not-is_unreported.false in
    heard_as g.H.LineHearer.hears c.args.out.now c.note.new.self _ _ (ap (λ (b : Bool). if b then Note (Unreported c.args.claim) ∷ [] else []) (sym new)) c.note.ensures
