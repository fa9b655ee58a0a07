use Rattle.std.proofs.Common.{false, rules}
use Rattle.text_core.proofs.Adding.{text_ended}
use Rattle.text_core.proofs.Counting.{all_of, front_of}
use Rattle.line_reading.specs.Windows.{standard}
use Rattle.capture_monitor.specs.Watch.{captured_by}
use Rattle.record_core.specs.declared.cell.Form.TheVariants.{Text}
use Rattle.audit_notes.specs.Lines.{lines_text}
use Rattle.capture_join.specs.Joined.{joined_lines}
use Rattle.audit_core.proofs.readings.write_from.Goals as goal

pub returns-in-Ok : goal.returns-in-Ok
returns-in-Ok g c =
    let text = lines_text Text (joined_lines c.args.joined_at false (captured_by standard c.args.capture.now)) in
    all_of _ _ _ _ text _ _ c.in-Ok.is
    (text_ended g.S.Sink.contents g.S.Sink.is_stuck c.args.out.now _ c.into_sink-below.result.now _ c.into_sink-below.result.ghost_name c.new-readings.result c.hear_from.new.out text c.written-written.result
    c.new-readings.ensures c.hear_from.ensures c.written-written.ensures.text
    c.into_sink-below.ensures.loan c.into_sink-below.ensures.known c.into_sink-below.ensures.stuck (search rules))

pub returns-in-Err : goal.returns-in-Err
returns-in-Err g c =
    let text = lines_text Text (joined_lines c.args.joined_at false (captured_by standard c.args.capture.now)) in
    front_of _ _ _ _ text _ _ c.in-Err.is
    (text_ended g.S.Sink.contents g.S.Sink.is_stuck c.args.out.now _ c.into_sink-below.result.now _ c.into_sink-below.result.ghost_name c.new-readings.result c.hear_from.new.out text c.written-written.result
    c.new-readings.ensures c.hear_from.ensures c.written-written.ensures.text
    c.into_sink-below.ensures.loan c.into_sink-below.ensures.known c.into_sink-below.ensures.stuck (search rules))
