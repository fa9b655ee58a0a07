use Rattle.std.proofs.Common.{◌∙◌, sym, ap, subst, None}
use Rattle.line_wire.specs.declared.edge_wire.EdgeWire.{EdgeWire}
use Rattle.std.specs.Option.{option_map}
use Rattle.room_net.specs.State.{NetState}
use Rattle.room_net.specs.Apply.{net_after}
use Rattle.room_net.specs.Underway.{IsUnderway}
use Rattle.room_net.proofs.Applying.{taken}
use Rattle.room_net.proofs.InRound.{underway_along}
use Rattle.room_net.proofs.net.Net.apply_underway.Goals as goal

pub invariant_of-self-in-Err : goal.invariant_of-self-in-Err
invariant_of-self-in-Err g c =
    let s : NetState = (record { tree = c.self.inside.tree; devices = c.self.inside.devices.items; pulses = c.self.inside.pulses; close = c.self.inside.close; rest = c.self.inside.rest; heard = None }) in (
      c.self-2.invariant.0,
      underway_along _ _ c.take-begun.result (sym (c.self-2.view_is ∙ c.in-Err.ensures.1)) (subst (λ o. IsUnderway s o) (sym c.take-begun.ensures.value) c.self.invariant.1),
    )

pub returns-in-Ok-clause-state : goal.returns-in-Ok-clause-state
returns-in-Ok-clause-state g c =
    let time = λ (w : EdgeWire). w.time in
    let s : NetState = record { tree = c.self.inside.tree; devices = c.self.inside.devices.items; pulses = c.self.inside.pulses; close = c.self.inside.close; rest = c.self.inside.rest; heard = option_map time c.self.inside.begun } in
    taken c.args.at c.args.event s c.apply_to_devices.new.self (option_map time c.take-begun.new.self) (ap (option_map time) c.take-begun.ensures.after) c.in-Ok.ensures.0 c.in-Ok.ensures.1
    ∙ ap (net_after c.args.at c.args.event) c.self.view_is
