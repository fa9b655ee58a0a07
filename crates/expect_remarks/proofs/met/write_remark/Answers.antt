use Rattle.std.proofs.Common.{[], ◌∷◌, rules}
use Rattle.text_core.proofs.Adding.{text_ended}
use Rattle.text_core.proofs.Counting.{all_of, front_of}
use Rattle.record_core.specs.declared.cell.Form.TheVariants.{Text}
use Rattle.audit_notes.specs.Lines.{lines_text}
use Rattle.audit_notes.specs.Lines.AuditLine.{Note}
use Rattle.expect_remarks.proofs.met.write_remark.Goals as goal

pub returns-in-Ok : goal.returns-in-Ok
returns-in-Ok g c =
    let text = lines_text Text (Note c.args.note ∷ []) in
    all_of _ _ _ _ text _ _ c.in-Ok.is
    (text_ended g.S.Sink.contents g.S.Sink.is_stuck c.args.out.now _ c.into_sink-below.result.now _ c.into_sink-below.result.ghost_name c.new-text.result c.note.new.self text c.written-written.result
    c.new-text.ensures c.note.ensures c.written-written.ensures.text
    c.into_sink-below.ensures.loan c.into_sink-below.ensures.known c.into_sink-below.ensures.stuck (search rules))

pub returns-in-Err : goal.returns-in-Err
returns-in-Err g c =
    let text = lines_text Text (Note c.args.note ∷ []) in
    front_of _ _ _ _ text _ _ c.in-Err.is
    (text_ended g.S.Sink.contents g.S.Sink.is_stuck c.args.out.now _ c.into_sink-below.result.now _ c.into_sink-below.result.ghost_name c.new-text.result c.note.new.self text c.written-written.result
    c.new-text.ensures c.note.ensures c.written-written.ensures.text
    c.into_sink-below.ensures.loan c.into_sink-below.ensures.known c.into_sink-below.ensures.stuck (search rules))
