use Rattle.std.proofs.Common.{◌++◌, ◌∷◌, [], List, ap₂}
use Rattle.audit_remarks.specs.declared.requests.Request.{Request}
use Rattle.audit_remarks.specs.declared.sources.Mention.{Mention}
use Rattle.audit_notes.specs.Lines.AuditLine.{Note}
use Rattle.audit_notes.specs.declared.note.AuditNote.TheVariants.{Summary}
use Rattle.audit_core.specs.Lines.{claims_lines, counts_lines, late_lines, widths_lines}
use Rattle.audit_core.proofs.Writing.{heard_as}
use Rattle.audit_core.proofs.auditor.Auditor.summarize.Goals as goal

pub returns : goal.returns
returns g c =
    let both = g.met.H.LineHearer.then in
    let waiting = c.deref.ensures.0 in
    let s = c.args.self.now in
    heard_as g.H.LineHearer.hears c.args.out.now c.hear_widths.new.out _ _
    (ap₂ (λ (w : List Request) (m : List Mention). (Note Summary ∷ []) ++ late_lines c.args.end w ++ claims_lines s.sources.reported.items m ++ counts_lines 0 s.counts ++ widths_lines s.widths) waiting c.active.ensures)
    (both c.args.out.now c.hear_counts.new.out c.hear_widths.new.out _ _
    (both c.args.out.now c.hear_claims.new.out c.hear_counts.new.out _ _
    (both c.args.out.now c.hear_late.new.out c.hear_claims.new.out _ _
    (both c.args.out.now c.note.new.self c.hear_late.new.out _ _ c.note.ensures c.hear_late.ensures) c.hear_claims.ensures) c.hear_counts.ensures) c.hear_widths.ensures)
