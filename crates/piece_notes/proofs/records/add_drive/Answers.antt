use Rattle.std.proofs.Common.{Bool, true, false, if◌then◌else◌, sym, subst, ◌∙◌}
use Rattle.text_core.specs.Adds.{Adds}
use Rattle.audit_judged.specs.declared.endings.EndingRemark.TheVariants.{LowDrive}
use Rattle.piece_notes.specs.Notes.{bad_drive_cells, good_drive_cells, text_with}
use Rattle.piece_notes.proofs.records.add_drive.Goals as goal

pub returns-then-fits : goal.returns-then-fits
returns-then-fits g c =
    subst (λ (b : Bool). Adds c.args.out.now c.add_good_drive.new.out (text_with c.args.form (LowDrive c.args.slots c.args.gap c.args.width)
    (if b then good_drive_cells c.args.slots c.args.gap c.args.width else bad_drive_cells c.args.slots c.args.gap c.args.width) c.args.who))
    (sym (sym c.fits.ensures ∙ c.if-fits.true)) c.add_good_drive.ensures

pub returns-else-fits : goal.returns-else-fits
returns-else-fits g c =
    subst (λ (b : Bool). Adds c.args.out.now c.add_bad_drive.new.out (text_with c.args.form (LowDrive c.args.slots c.args.gap c.args.width)
    (if b then good_drive_cells c.args.slots c.args.gap c.args.width else bad_drive_cells c.args.slots c.args.gap c.args.width) c.args.who))
    (sym (sym c.fits.ensures ∙ c.if-fits.false)) c.add_bad_drive.ensures
