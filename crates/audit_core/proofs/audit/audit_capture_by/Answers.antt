use Rattle.std.proofs.Common.{Ok, Err, rules}
use Rattle.text_core.proofs.Adding.{text_ended}
use Rattle.text_core.proofs.Counting.{all_of, front_of}
use Rattle.capture_monitor.specs.Watch.{captured_by}
use Rattle.record_core.specs.declared.cell.Form.TheVariants.{Text}
use Rattle.audit_notes.specs.Lines.{lines_text}
use Rattle.audit_core.specs.Audit.{audit_lines, audit_text_of}
use Rattle.audit_core.proofs.AsLines.{are_lines}
use Rattle.audit_core.proofs.Writing.{written_as}
use Rattle.audit_core.proofs.audit.audit_capture_by.Goals as goal

pub returns-in-Ok : goal.returns-in-Ok
returns-in-Ok g c =
    let xs = captured_by c.args.windows c.args.capture.now in
    let text = lines_text Text (audit_lines c.args.options.timing c.args.capture.now xs) in
    written_as _ _ _ _ text (audit_text_of c.args.options.timing c.args.capture.now xs) (Ok tt)
    (are_lines c.args.options.timing c.args.capture.now xs)
    (all_of _ _ _ _ text _ _ c.in-Ok.is
    (text_ended g.S.Sink.contents g.S.Sink.is_stuck c.args.out.now _ c.into_sink-below.result.now _ c.into_sink-below.result.ghost_name c.new-audit.result c.hear_audit.new.out text c.written-written.result
    c.new-audit.ensures c.hear_audit.ensures c.written-written.ensures.text
    c.into_sink-below.ensures.loan c.into_sink-below.ensures.known c.into_sink-below.ensures.stuck (search rules)))

pub returns-in-Err : goal.returns-in-Err
returns-in-Err g c =
    let xs = captured_by c.args.windows c.args.capture.now in
    let text = lines_text Text (audit_lines c.args.options.timing c.args.capture.now xs) in
    written_as _ _ (g.S.Sink.is_stuck c.args.out.now) _ text (audit_text_of c.args.options.timing c.args.capture.now xs) (Err c.in-Err.fault)
    (are_lines c.args.options.timing c.args.capture.now xs)
    (front_of _ _ _ _ text _ _ c.in-Err.is
    (text_ended g.S.Sink.contents g.S.Sink.is_stuck c.args.out.now _ c.into_sink-below.result.now _ c.into_sink-below.result.ghost_name c.new-audit.result c.hear_audit.new.out text c.written-written.result
    c.new-audit.ensures c.hear_audit.ensures c.written-written.ensures.text
    c.into_sink-below.ensures.loan c.into_sink-below.ensures.known c.into_sink-below.ensures.stuck (search rules)))
