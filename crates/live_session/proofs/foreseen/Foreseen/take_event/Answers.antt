use Rattle.std.proofs.Common.{sym, subst}
use Rattle.live_session.specs.Turns.{AreAhead}
use Rattle.live_session.proofs.HasText.{ahead_event}
use Rattle.live_session.proofs.foreseen.Foreseen.take_event.Goals as goal

pub invariant_of-self : goal.invariant_of-self
invariant_of-self g c =
    let before : AreAhead c.deref_mut.result.now = subst AreAhead (sym c.deref_mut.ensures.value) c.self.invariant.1 in
    (tt, ahead_event c.args.at c.args.event.now.event c.deref_mut.result.now c.take_event.new.net c.take_event.ensures.net before)
