use Rattle.std.proofs.Common.{subst, sym}
use Rattle.text_core.specs.Adds.{Adds}
use Rattle.audit_notes.specs.Notes.{note_text}
use Rattle.audit_notes.specs.declared.note.AuditNote.{AuditNote}
use Rattle.audit_notes.proofs.records.add_note.Goals as goal

pub returns-in-BadStarts : goal.returns-in-BadStarts
returns-in-BadStarts g c = subst (λ (n : AuditNote). Adds c.args.out.now c.add_series.new.out (note_text c.args.form n)) (sym c.in-BadStarts.is) c.add_series.ensures

pub returns-in-NoAnswer : goal.returns-in-NoAnswer
returns-in-NoAnswer g c = subst (λ (n : AuditNote). Adds c.args.out.now c.add_request.new.out (note_text c.args.form n)) (sym c.in-NoAnswer.is) c.add_request.ensures

pub returns-in-LateAnswer : goal.returns-in-LateAnswer
returns-in-LateAnswer g c = subst (λ (n : AuditNote). Adds c.args.out.now c.add_answered.new.out (note_text c.args.form n)) (sym c.in-LateAnswer.is) c.add_answered.ensures

pub returns-in-Free : goal.returns-in-Free
returns-in-Free g c = subst (λ (n : AuditNote). Adds c.args.out.now c.add_soon.new.out (note_text c.args.form n)) (sym c.in-Free.is) c.add_soon.ensures

pub returns-in-Misfit : goal.returns-in-Misfit
returns-in-Misfit g c = subst (λ (n : AuditNote). Adds c.args.out.now c.add_misfit.new.out (note_text c.args.form n)) (sym c.in-Misfit.is) c.add_misfit.ensures

pub returns-in-LowDrive : goal.returns-in-LowDrive
returns-in-LowDrive g c = subst (λ (n : AuditNote). Adds c.args.out.now c.add_drive.new.out (note_text c.args.form n)) (sym c.in-LowDrive.is) c.add_drive.ensures

pub returns-in-DriveWithin : goal.returns-in-DriveWithin
returns-in-DriveWithin g c = subst (λ (n : AuditNote). Adds c.args.out.now c.add_within.new.out (note_text c.args.form n)) (sym c.in-DriveWithin.is) c.add_within.ensures

pub returns-in-Unfinished : goal.returns-in-Unfinished
returns-in-Unfinished g c = subst (λ (n : AuditNote). Adds c.args.out.now c.add_unfinished.new.out (note_text c.args.form n)) (sym c.in-Unfinished.is) c.add_unfinished.ensures

pub returns-in-Attempt : goal.returns-in-Attempt
returns-in-Attempt g c = subst (λ (n : AuditNote). Adds c.args.out.now c.add_attempt.new.out (note_text c.args.form n)) (sym c.in-Attempt.is) c.add_attempt.ensures

pub returns-in-GoesOn : goal.returns-in-GoesOn
returns-in-GoesOn g c = subst (λ (n : AuditNote). Adds c.args.out.now c.add_goes_on.new.out (note_text c.args.form n)) (sym c.in-GoesOn.is) c.add_goes_on.ensures

pub returns-in-Ending : goal.returns-in-Ending
returns-in-Ending g c = subst (λ (n : AuditNote). Adds c.args.out.now c.add_ending.new.out (note_text c.args.form n)) (sym c.in-Ending.is) c.add_ending.ensures

pub returns-in-Cause : goal.returns-in-Cause
returns-in-Cause g c = subst (λ (n : AuditNote). Adds c.args.out.now c.add_cause.new.out (note_text c.args.form n)) (sym c.in-Cause.is) c.add_cause.ensures

pub returns-in-Moved : goal.returns-in-Moved
returns-in-Moved g c = subst (λ (n : AuditNote). Adds c.args.out.now c.add_moved.new.out (note_text c.args.form n)) (sym c.in-Moved.is) c.add_moved.ensures

pub returns-in-Receivers : goal.returns-in-Receivers
returns-in-Receivers g c = subst (λ (n : AuditNote). Adds c.args.out.now c.add_receivers.new.out (note_text c.args.form n)) (sym c.in-Receivers.is) c.add_receivers.ensures

pub returns-in-Operands : goal.returns-in-Operands
returns-in-Operands g c = subst (λ (n : AuditNote). Adds c.args.out.now c.add_missing.new.out (note_text c.args.form n)) (sym c.in-Operands.is) c.add_missing.ensures

pub returns-in-Unreported : goal.returns-in-Unreported
returns-in-Unreported g c = subst (λ (n : AuditNote). Adds c.args.out.now c.add_claim.new.out (note_text c.args.form n)) (sym c.in-Unreported.is) c.add_claim.ensures

pub returns-in-Read : goal.returns-in-Read
returns-in-Read g c = subst (λ (n : AuditNote). Adds c.args.out.now c.add_head.new.out (note_text c.args.form n)) (sym c.in-Read.is) c.add_head.ensures

pub returns-in-Sender : goal.returns-in-Sender
returns-in-Sender g c = subst (λ (n : AuditNote). Adds c.args.out.now c.add_count.new.out (note_text c.args.form n)) (sym c.in-Sender.is) c.add_count.ensures

pub returns-in-Widths : goal.returns-in-Widths
returns-in-Widths g c = subst (λ (n : AuditNote). Adds c.args.out.now c.add_spread.new.out (note_text c.args.form n)) (sym c.in-Widths.is) c.add_spread.ensures
