use Rattle.std.proofs.Common.{◌≡◌}
use Rattle.edid_tree.specs.Port.{port_bytes}
use Rattle.room_trace.proofs.port_text.add_port.Goals as goal

pub returns : goal.returns
returns g c =
    let bytes : c.in-Ok.bytes.items ≡ port_bytes c.args.root.now c.args.tree.now c.args.device c.args.port = c.in-Ok.ensures.bytes in
    rw (← c.name_in.ensures, ← bytes, ← c.deref.ensures.0) c.add_port_of.ensures
