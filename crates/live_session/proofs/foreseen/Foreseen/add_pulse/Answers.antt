use Rattle.std.proofs.Common.{sym, subst}
use Rattle.live_session.specs.Turns.{AreAhead}
use Rattle.live_session.proofs.HasText.{ahead_added}
use Rattle.live_session.proofs.foreseen.Foreseen.add_pulse.Goals as goal

pub invariant_of-self : goal.invariant_of-self
invariant_of-self c =
    let before : AreAhead c.deref_mut.result.now = subst AreAhead (sym c.deref_mut.ensures.value) c.self.invariant.1 in
    (tt, ahead_added c.deref_mut.result.now c.add_pulse.new.self c.args.pulse c.add_pulse.result c.add_pulse.ensures before)
