use Rattle.std.proofs.Common.{rules}
use Rattle.text_core.proofs.Adding.{text_ended}
use Rattle.text_core.proofs.Counting.{all_of}
use Rattle.audit_notes.specs.Lines.{lines_text}
use Rattle.program_captures.proofs.capture.write_lines.Goals as goal

pub returns-in-Ok : goal.returns-in-Ok
returns-in-Ok g c =
    let heard = c.hear_report.ensures in
    let text = lines_text c.args.written heard.0 in
    let whole = all_of _ _ _ _ text _ _ c.in-Ok.is
    (text_ended g.W.Sink.contents g.W.Sink.is_stuck c.args.out.now _ c.into_sink-below.result.now _ c.into_sink-below.result.ghost_name c.new.result c.hear_report.new.hearer.hearer.out text c.written-done.result
    c.new.ensures heard.2.0.1 c.written-done.ensures.text
    c.into_sink-below.ensures.loan c.into_sink-below.ensures.known c.into_sink-below.ensures.stuck (search rules)) in
    (heard.0, heard.1, whole.0, heard.2.1)
