use Rattle.std.proofs.Common.{rules}
use Rattle.text_core.proofs.Adding.{text_ended}
use Rattle.live_session.proofs.Answering.{answered}
use Rattle.live_session.proofs.live.Live.write.Goals as goal

pub returns : goal.returns
returns g c =
    let taken = c.take-text.ensures in
    answered c.args.step c.args.self.now c.take-text.new.self c.new.result c.take-text.result (g.S.Sink.contents c.args.out.now) _ (g.S.Sink.is_stuck c.args.out.now) _ c.written-written.result
    taken c.written-written.ensures.failed
    (text_ended g.S.Sink.contents g.S.Sink.is_stuck c.args.out.now _ c.into_sink-below.result.now _ c.into_sink-below.result.ghost_name c.new.result c.take-text.result taken.text c.written-written.result
    c.new.ensures taken.added c.written-written.ensures.text
    c.into_sink-below.ensures.loan c.into_sink-below.ensures.known c.into_sink-below.ensures.stuck (search rules))
