use Rattle.std.proofs.Common.{None, ◌∙◌, ap}
use Rattle.room_net.specs.State.{NetState, each_from, moved_by}
use Rattle.room_net.proofs.InRound.{none_underway}
use Rattle.room_net.proofs.Soundness.{sound-rewritten}
use Rattle.room_net.proofs.net.Net.unplug.Goals as goal

pub invariant_of-self-in-Ok : goal.invariant_of-self-in-Ok
invariant_of-self-in-Ok g c =
    let s : NetState = (record { tree = c.self.inside.tree; devices = c.self.inside.devices.items; pulses = c.self.inside.pulses; close = c.self.inside.close; rest = c.self.inside.rest; heard = None }) in (
      sound-rewritten s c.args.at c.unplug.new.self c.rewire.new.devices c.requires.early c.unplug.ensures.count c.self.invariant.0
          (c.rewire.ensures ∙ ap (each_from 0 (moved_by c.args.at c.unplug.new.self)) c.deref_mut.ensures.value),
      none_underway _ c.self.inside.begun (ap (λ (t : NetState). t.heard) c.self.view_is ∙ c.requires.idle),
    )
