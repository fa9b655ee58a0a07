use Rattle.std.proofs.Common.{rules}
use Rattle.text_core.proofs.Adding.{text_ended}
use Rattle.audit_notes.specs.Lines.{lines_text}
use Rattle.follow_audit.proofs.Audited.{finishes_all, finishes_front}
use Rattle.follow_audit.proofs.listener.Listener.finish.Goals as goal

pub returns-in-Ok : goal.returns-in-Ok
returns-in-Ok g c =
    let says = c.hear_rest.ensures in
    finishes_all _ _ _ _ _ _ _ c.written-written.result _ c.args.end c.in-Ok.is says says.put.1
    (text_ended g.S.Sink.contents g.S.Sink.is_stuck c.args.out.now _ c.into_sink-below.result.now _ c.into_sink-below.result.ghost_name c.new.result c.hear_rest.new.out.hearer.out (lines_text c.args.self.view.written says.lines) c.written-written.result
    c.new.ensures says.put.0.1 c.written-written.ensures.text
    c.into_sink-below.ensures.loan c.into_sink-below.ensures.known c.into_sink-below.ensures.stuck (search rules))

pub returns : goal.returns
returns g c =
    let says = c.hear_rest.ensures in (
      finishes_front _ _ _ _ _ c.written-written.result c.args.end says
          (text_ended g.S.Sink.contents g.S.Sink.is_stuck c.args.out.now _ c.into_sink-below.result.now _ c.into_sink-below.result.ghost_name c.new.result c.hear_rest.new.out.hearer.out (lines_text c.args.self.view.written says.lines) c.written-written.result
          c.new.ensures says.put.0.1 c.written-written.ensures.text
          c.into_sink-below.ensures.loan c.into_sink-below.ensures.known c.into_sink-below.ensures.stuck (search rules)),
      tt,
    )
