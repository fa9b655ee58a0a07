use Rattle.std.proofs.Common.{◌∙◌, None}
use Rattle.room_net.specs.State.{NetState}
use Rattle.room_net.proofs.InRound.{same_state}
use Rattle.room_net.proofs.underway.Net+EdgeWire.copy.Goals as goal

pub invariant_of-result : goal.invariant_of-result
invariant_of-result c =
    let s : NetState = (record { tree = c.self.inside.tree; devices = c.self.inside.devices.items; pulses = c.self.inside.pulses; close = c.self.inside.close; rest = c.self.inside.rest; heard = None }) in
    same_state s c.self.inside.begun c.copied_wire.result c.copy.result c.copied_devices.result.items c.copy-3.result c.copy.ensures (c.copied_devices.ensures ∙ c.deref.ensures.0) c.copy-3.ensures
    c.copied_wire.ensures c.self.invariant
