use Rattle.std.proofs.Common.{None, ◌∙◌, ap, arith, max}
use Rattle.device_core.specs.State.{State}
use Rattle.device_core.specs.Keys.{after_key, keyed_by, key_fault}
use Rattle.room_net.specs.State.{NetState}
use Rattle.room_net.specs.Apply.{changed_at}
use Rattle.room_net.proofs.Ahead.{ahead-keyed}
use Rattle.room_net.proofs.Orderly.{keeps-keyed}
use Rattle.std.specs.Option.{option_map}
use Rattle.line_wave.specs.Bounds.{latest_instant}
use Rattle.line_wire.specs.declared.edge_wire.EdgeWire.{EdgeWire}
use Rattle.room_net.proofs.InRound.{none_underway}
use Rattle.room_net.proofs.Soundness.{sound-replaced, answered-call}
use Rattle.room_net.proofs.net.Net.key.Goals as goal

pub invariant_of-self : goal.invariant_of-self
invariant_of-self g c =
    let s : NetState = (record { tree = c.self.inside.tree; devices = c.self.inside.devices.items; pulses = c.self.inside.pulses; close = c.self.inside.close; rest = c.self.inside.rest; heard = None }) in
    let change = λ (d : State). after_key 16 d c.args.key c.args.press c.args.at in (
      sound-replaced s c.args.device change c.press_key.new.devices (λ d r. (ahead-keyed (max latest_instant c.self.inside.close) 16 c.args.at c.args.key c.args.press d (omega (arith, c.requires.early))).ready r) (keeps-keyed c.args.at c.args.key c.args.press) c.self.invariant.0
          (c.press_key.ensures.state ∙ ap (changed_at c.args.device change) c.deref_mut.ensures.value),
      none_underway (record s { devices = _ }) c.self.inside.begun (ap (λ (t : NetState). t.heard) c.self.view_is ∙ c.requires.idle),
    )

pub returns : goal.returns
returns g c =
    answered-call c.press_key.result (record { tree = c.self.inside.tree; devices = c.self.inside.devices.items; pulses = c.self.inside.pulses; close = c.self.inside.close; rest = c.self.inside.rest; heard = option_map (λ (w : EdgeWire). w.time) c.self.inside.begun }) c.args.self.now c.args.device (λ (d : State). key_fault d c.args.key) (λ (d : State). after_key 16 d c.args.key c.args.press c.args.at)
    c.deref_mut.result.now c.press_key.new.devices (λ d e f. ap (keyed_by 16 d c.args.key c.args.press c.args.at) f) c.self.view_is c.deref_mut.ensures.value c.press_key.ensures.answer c.press_key.ensures.state
