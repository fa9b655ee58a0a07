use Rattle.std.proofs.Common.{◌∙◌, None}
use Rattle.room_net.specs.State.{NetState}
use Rattle.room_net.proofs.InRound.{same_state}
use Rattle.room_net.proofs.underway.Net+EdgeWire.copy_from.Goals as goal

pub invariant_of-self : goal.invariant_of-self
invariant_of-self c =
    let s : NetState = (record { tree = c.other.inside.tree; devices = c.other.inside.devices.items; pulses = c.other.inside.pulses; close = c.other.inside.close; rest = c.other.inside.rest; heard = None }) in
    same_state s c.other.inside.begun c.copy_wire.new.copy c.copy_from.new.self c.copy_devices.new.copy.items c.copy_from-2.new.self c.copy_from.ensures
    (c.copy_devices.ensures ∙ c.deref.ensures.0) c.copy_from-2.ensures c.copy_wire.ensures c.other.invariant
