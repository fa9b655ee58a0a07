use Rattle.std.proofs.Common.{option_map, refl, ap, ◌∙◌}
use Rattle.line_reading.specs.Reports.{listed_as}
use Rattle.audit_widths.specs.Misfits.{drive_within}
use Rattle.audit_notes.specs.declared.note.AuditNote.TheVariants as notes
use Rattle.audit_core.specs.Audit.{drive_of, reading_misfits, tape_at}
use Rattle.audit_core.specs.Lines.{ending_note}
use Rattle.audit_core.proofs.Times.{times_are}
use Rattle.audit_core.proofs.Writing.{heard_as}
use Rattle.audit_core.proofs.auditor.Auditor.hear_times.Goals as goal

pub hear_reading_misfits-requires : goal.hear_reading_misfits-requires
hear_reading_misfits-requires g c = c.drive_within-within.ensures ∙ ap drive_within c.as_slice.ensures.value

pub returns : goal.returns
returns g c =
    let both = g.met.H.LineHearer.then in
    let heard = c.args.heard.now in
    let x = listed_as heard.reading.now in
    let t = tape_at heard.edges.now c.args.self.now in
    let sent = c.deref-3.ensures.0 in
    let frame = c.deref-4.ensures.0 in
    let waiting = c.deref-5.ensures.0 in
    let lows = c.as_slice.ensures.value in
    let bits = c.deref.ensures.0 in
    let same_bits = c.deref-2.ensures.0 in
    heard_as g.H.LineHearer.hears c.args.out.now c.hear_noted-8.new.out _ _
    (times_are t x heard.lows.now.items (drive_of x heard.edges.now) c.first_begin-first.result c.deref-3.result.now c.deref-4.result.now c.deref-5.result.now
    c.series_note.result c.soon_note.result c.drive_note.result c.within_note.result c.block_note.result c.attempt_note.result c.goes_on_note.result c.ending_note.result
    c.first_begin-first.ensures (sent ∙ c.requires.sent) (frame ∙ c.requires.frame) waiting (c.series_note.ensures ∙ ap (option_map notes.BadStarts) c.over-series.ensures)
    (c.soon_note.ensures ∙ ap (option_map notes.Free) (c.too_soon-soon.ensures ∙ rw (c.tries_again-again.ensures, bits) refl))
    (c.drive_note.ensures ∙ ap (option_map notes.LowDrive) c.drive-drive.ensures) (c.within_note.ensures ∙ ap (option_map notes.DriveWithin) (c.drive_within-within.ensures ∙ ap drive_within lows))
    (c.block_note.ensures ∙ ap (option_map notes.Unfinished) c.unfinished.ensures) (c.attempt_note.ensures ∙ ap (option_map notes.Attempt) (c.failure_of-failure.ensures ∙ rw (c.free_before-free.ensures, same_bits) refl))
    (c.goes_on_note.ensures ∙ rw (c.goes_on_after.ensures, c.deref-6.ensures.0, c.deref-7.ensures.0) refl)
    (c.ending_note.ensures ∙ rw (c.deref-8.ensures.0, c.ending-said.ensures, c.drive-drive.ensures) refl))
    (both c.args.out.now c.hear_noted-7.new.out c.hear_noted-8.new.out _ _
    (both c.args.out.now c.hear_noted-6.new.out c.hear_noted-7.new.out _ _
    (both c.args.out.now c.hear_noted-5.new.out c.hear_noted-6.new.out _ _
    (both c.args.out.now c.hear_noted-4.new.out c.hear_noted-5.new.out _ _
    (both c.args.out.now c.hear_noted-3.new.out c.hear_noted-4.new.out _ _
    (both c.args.out.now c.hear_reading_misfits.new.out c.hear_noted-3.new.out _ _
    (both c.args.out.now c.hear_noted-2.new.out c.hear_reading_misfits.new.out _ _
    (both c.args.out.now c.hear_answers.new.out c.hear_noted-2.new.out _ _
    (both c.args.out.now c.hear_noted.new.out c.hear_answers.new.out _ _ c.hear_noted.ensures c.hear_answers.ensures) c.hear_noted-2.ensures)
    (heard_as g.H.LineHearer.hears c.hear_noted-2.new.out c.hear_reading_misfits.new.out _ _ (ap (λ drive. reading_misfits t x heard.lows.now.items drive) c.drive-drive.ensures) c.hear_reading_misfits.ensures))
    c.hear_noted-3.ensures) c.hear_noted-4.ensures) c.hear_noted-5.ensures) c.hear_noted-6.ensures) c.hear_noted-7.ensures) c.hear_noted-8.ensures)
