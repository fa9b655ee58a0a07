use Rattle.std.proofs.Common.{rules, get_or, false}
use Rattle.text_core.proofs.Adding.{text_ended}
use Rattle.room_trace.specs.PortText.{port_lines}
use Rattle.room_trace.proofs.port_text.write_ports.Goals as goal

pub returns : goal.returns
returns g c =
    let lines = port_lines c.args.at c.args.edid.now (λ device. get_or c.args.was.now device false) c.args.tree.now in
    text_ended g.S.Sink.contents g.S.Sink.is_stuck c.args.out.now _ c.into_sink-below.result.now _ c.into_sink-below.result.ghost_name c.new-text.result c.add_new_ports.new.out lines c.written-written.result
    c.new-text.ensures c.add_new_ports.ensures c.written-written.ensures.text
    c.into_sink-below.ensures.loan c.into_sink-below.ensures.known c.into_sink-below.ensures.stuck (search rules)
