use Rattle.std.proofs.Common.{None, ◌∙◌, ap, max}
use Rattle.device_core.specs.State.{State}
use Rattle.device_core.specs.Outside.{act_fault, after_act, acted_by}
use Rattle.room_net.specs.State.{NetState}
use Rattle.room_net.specs.Apply.{changed_at}
use Rattle.room_net.proofs.Ahead.{ready-acted}
use Rattle.room_net.proofs.Orderly.{keeps-acted}
use Rattle.std.specs.Option.{option_map}
use Rattle.line_wave.specs.Bounds.{latest_instant}
use Rattle.line_wire.specs.declared.edge_wire.EdgeWire.{EdgeWire}
use Rattle.room_net.proofs.InRound.{none_underway}
use Rattle.room_net.proofs.Soundness.{sound-replaced, answered-call}
use Rattle.room_net.proofs.net.Net.act.Goals as goal

pub invariant_of-self : goal.invariant_of-self
invariant_of-self g c =
    let s : NetState = (record { tree = c.self.inside.tree; devices = c.self.inside.devices.items; pulses = c.self.inside.pulses; close = c.self.inside.close; rest = c.self.inside.rest; heard = None }) in
    let change = λ (d : State). after_act d c.args.act in (
      sound-replaced s c.args.device change c.act_on.new.devices (λ d r. ready-acted (max latest_instant c.self.inside.close) d c.args.act r) (keeps-acted c.args.act) c.self.invariant.0
          (c.act_on.ensures.state ∙ ap (changed_at c.args.device change) c.deref_mut.ensures.value),
      none_underway (record s { devices = _ }) c.self.inside.begun (ap (λ (t : NetState). t.heard) c.self.view_is ∙ c.requires.idle),
    )

pub returns : goal.returns
returns g c =
    answered-call c.act_on.result (record { tree = c.self.inside.tree; devices = c.self.inside.devices.items; pulses = c.self.inside.pulses; close = c.self.inside.close; rest = c.self.inside.rest; heard = option_map (λ (w : EdgeWire). w.time) c.self.inside.begun }) c.args.self.now c.args.device (λ (d : State). act_fault d) (λ (d : State). after_act d c.args.act)
    c.deref_mut.result.now c.act_on.new.devices (λ d e f. ap (λ o. acted_by d o c.args.act) f) c.self.view_is c.deref_mut.ensures.value c.act_on.ensures.answer c.act_on.ensures.state
