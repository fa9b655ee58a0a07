use Rattle.std.proofs.Common.{rules, false}
use Rattle.text_core.proofs.Adding.{text_ended}
use Rattle.room_trace.specs.PortText.{port_texts}
use Rattle.live_session.proofs.start.write_first_ports.Goals as goal

pub returns : goal.returns
returns g c =
    let ports = port_texts c.args.form 0 c.args.edid.now (λ device. false) c.args.tree.now in
    text_ended g.S.Sink.contents g.S.Sink.is_stuck c.args.out.now _ c.into_sink-below.result.now _ c.into_sink-below.result.ghost_name c.new-text.result c.add_new_ports.new.out ports c.written-written.result
    c.new-text.ensures c.add_new_ports.ensures c.written-written.ensures.text
    c.into_sink-below.ensures.loan c.into_sink-below.ensures.known c.into_sink-below.ensures.stuck (search rules)
