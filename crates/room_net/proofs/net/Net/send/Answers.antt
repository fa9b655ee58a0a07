use Rattle.std.proofs.Common.{None, ◌∙◌, ap, arith, max}
use Rattle.device_core.specs.State.{State}
use Rattle.device_core.specs.Place.{after_submission, submitted_by, submit_fault}
use Rattle.room_net.specs.State.{NetState}
use Rattle.room_net.specs.Apply.{changed_at}
use Rattle.room_net.proofs.Ahead.{ready-submitted}
use Rattle.room_net.proofs.Orderly.{keeps-submitted}
use Rattle.std.specs.Option.{option_map}
use Rattle.line_wave.specs.Bounds.{latest_instant}
use Rattle.line_wire.specs.declared.edge_wire.EdgeWire.{EdgeWire}
use Rattle.room_net.proofs.InRound.{none_underway}
use Rattle.room_net.proofs.Soundness.{sound-replaced, answered-call}
use Rattle.room_net.proofs.net.Net.send.Goals as goal

pub invariant_of-self : goal.invariant_of-self
invariant_of-self g c =
    let s : NetState = (record { tree = c.self.inside.tree; devices = c.self.inside.devices.items; pulses = c.self.inside.pulses; close = c.self.inside.close; rest = c.self.inside.rest; heard = None }) in
    let change = λ (d : State). after_submission 16 d c.args.frame c.args.ticket c.args.at in (
      sound-replaced s c.args.device change c.submit_frame.new.devices (λ d r. ready-submitted (max latest_instant c.self.inside.close) 16 c.args.at c.args.frame c.args.ticket d (omega (arith, c.requires.early)) r) (keeps-submitted c.args.at c.args.frame c.args.ticket) c.self.invariant.0
          (c.submit_frame.ensures.state ∙ ap (changed_at c.args.device change) c.deref_mut.ensures.value),
      none_underway (record s { devices = _ }) c.self.inside.begun (ap (λ (t : NetState). t.heard) c.self.view_is ∙ c.requires.idle),
    )

pub returns : goal.returns
returns g c =
    answered-call c.submit_frame.result (record { tree = c.self.inside.tree; devices = c.self.inside.devices.items; pulses = c.self.inside.pulses; close = c.self.inside.close; rest = c.self.inside.rest; heard = option_map (λ (w : EdgeWire). w.time) c.self.inside.begun }) c.args.self.now c.args.device (λ (d : State). submit_fault 16 d c.args.frame) (λ (d : State). after_submission 16 d c.args.frame c.args.ticket c.args.at)
    c.deref_mut.result.now c.submit_frame.new.devices (λ d e f. ap (submitted_by d c.args.frame c.args.ticket c.args.at) f) c.self.view_is c.deref_mut.ensures.value c.submit_frame.ensures.answer c.submit_frame.ensures.state
