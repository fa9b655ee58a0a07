use Rattle.std.proofs.Common.{rules}
use Rattle.line_reading.specs.Follows.{standing_by_code}
use Rattle.text_core.proofs.Adding.{text_ended}
use Rattle.room_step_text.specs.EdgeText.{edge_text}
use Rattle.room_step_text.proofs.edge_text.write_edge.Goals as goal

pub returns : goal.returns
returns g c =
    text_ended g.S.Sink.contents g.S.Sink.is_stuck c.args.out.now _ c.into_sink-below.result.now _ c.into_sink-below.result.ghost_name c.new-line.result c.add_edge.new.out
    (edge_text c.args.form c.args.devices.now c.args.edge (standing_by_code c.args.standing)) c.written-written.result
    c.new-line.ensures c.add_edge.ensures c.written-written.ensures.text
    c.into_sink-below.ensures.loan c.into_sink-below.ensures.known c.into_sink-below.ensures.stuck (search rules)
