use Rattle.std.proofs.Common.{sym, subst, None, ◌∙◌, List}
use Rattle.line_wave.specs.declared.Stretch.{Stretch}
use Rattle.room_net.specs.State.{NetState}
use Rattle.room_net.specs.Sound.{IsSound}
use Rattle.room_net.proofs.InRound.{no_underway}
use Rattle.room_net.proofs.Told.{told}
use Rattle.room_net.proofs.net.Net.add_pulse.Goals as goal

pub push-requires : goal.push-requires
push-requires g c =
    let s : NetState = (record { tree = c.self.inside.tree; devices = c.self.inside.devices.items; pulses = c.self.inside.pulses; close = c.self.inside.close; rest = c.self.inside.rest; heard = None }) in
    (told s c.as_slice.result.now c.args.pulse c.follows.result c.is_late.result c.as_slice.ensures.pulls c.follows.ensures c.if-follows.true c.is_late.ensures c.if-is_late.false c.if-pulse-self.false c.self.invariant.0).timely

pub invariant_of-self : goal.invariant_of-self
invariant_of-self g c =
    let s : NetState = (record { tree = c.self.inside.tree; devices = c.self.inside.devices.items; pulses = c.self.inside.pulses; close = c.self.inside.close; rest = c.self.inside.rest; heard = None }) in
    let Sound : List Stretch → Type 0 = λ ps. IsSound (record s { pulses = ps }) in (
      subst Sound (sym c.push.ensures) (told s c.as_slice.result.now c.args.pulse c.follows.result c.is_late.result c.as_slice.ensures.pulls c.follows.ensures c.if-follows.true c.is_late.ensures c.if-is_late.false c.if-pulse-self.false c.self.invariant.0).sound,
      no_underway _ c.self.inside.begun (sym c.is_some.ensures ∙ c.if-is_some.false),
    )
