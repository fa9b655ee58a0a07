use Rattle.std.proofs.Common.{rules}
use Rattle.text_core.proofs.Adding.{text_ended}
use Rattle.text_core.proofs.Counting.{all_of}
use Rattle.capture_verdict.specs.Texts.{verdict_text}
use Rattle.program_captures.proofs.summary.put_verdict.Goals as goal

pub returns-in-Ok : goal.returns-in-Ok
returns-in-Ok g c =
    let text = verdict_text c.args.written c.args.verdict in
    let put = all_of _ _ _ _ text _ _ c.in-Ok.is
    (text_ended g.W.Sink.contents g.W.Sink.is_stuck c.args.out.now _ c.into_sink-below.result.now _ c.into_sink-below.result.ghost_name c.new-text.result c.add_verdict.new.out text c.written-done.result
    c.new-text.ensures c.add_verdict.ensures c.written-done.ensures.text
    c.into_sink-below.ensures.loan c.into_sink-below.ensures.known c.into_sink-below.ensures.stuck (search rules)) in
    put.0
