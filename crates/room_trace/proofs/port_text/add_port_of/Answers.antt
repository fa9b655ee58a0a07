use Rattle.std.proofs.Common.{codes}
use Rattle.room_trace.specs.PortText.{port_cells, port_line_of}
use Rattle.room_trace.proofs.Records.{port_same, recorded}
use Rattle.room_trace.proofs.port_text.add_port_of.Goals as goal

pub returns : goal.returns
returns g c =
    let at = c.args.at in
    let name = c.args.name.now in
    let port = c.args.port in
    let bytes = c.args.bytes.now in
    recorded c.args.form (port_line_of at name port bytes) (codes "port") (port_cells at name port bytes) c.args.out.now c.add_record.new.out (port_same at name port bytes) c.add_record.ensures
