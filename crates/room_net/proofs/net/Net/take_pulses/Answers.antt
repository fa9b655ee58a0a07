use Rattle.std.proofs.Common.{◌≡◌, ap, sym, subst, None, ◌∙◌, arith, List}
use Rattle.line_wave.specs.declared.Stretch.{Stretch}
use Rattle.room_net.specs.State.{NetState}
use Rattle.room_net.specs.Sound.{IsSound}
use Rattle.room_net.proofs.InRound.{none_underway}
use Rattle.line_wave.proofs.Kept.{timely_tested}
use Rattle.room_net.proofs.Soundness.{sound-pulses}
use Rattle.room_net.proofs.net.Net.take_pulses.Goals as goal

pub become_those-requires : goal.become_those-requires
become_those-requires g c = (timely_tested c.args.pulses.now).0 c.requires.timely

pub invariant_of-self : goal.invariant_of-self
invariant_of-self g c =
    let s : NetState = (record { tree = c.self.inside.tree; devices = c.self.inside.devices.items; pulses = c.self.inside.pulses; close = c.self.inside.close; rest = c.self.inside.rest; heard = None }) in
    let Sound : List Stretch → Type 0 = λ ps. IsSound (record s { pulses = ps }) in
    let zero : c.self.inside.rest ≡ 0 = ap (λ (t : NetState). t.rest) c.self.view_is ∙ c.requires.fresh in (
      subst Sound (sym c.become_those.ensures) (sound-pulses s c.args.pulses.now c.self.invariant.0 c.requires.early c.requires.ends (λ k p l. omega (arith, zero))),
      none_underway _ c.self.inside.begun (ap (λ (t : NetState). t.heard) c.self.view_is ∙ c.requires.idle),
    )
