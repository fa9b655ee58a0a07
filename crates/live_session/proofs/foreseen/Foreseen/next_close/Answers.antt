use Rattle.std.proofs.Common.{◌≡◌, ◌∙◌, subst}
use Rattle.room_net.specs.State.{NetState}
use Rattle.live_session.specs.Turns.{IsForeseen}
use Rattle.live_session.proofs.Foreseeing.{known_close}
use Rattle.live_session.proofs.foreseen.Foreseen.next_close.Goals as goal

pub returns-clause-close : goal.returns-clause-close
returns-clause-close c =
    let net : c.deref_mut.result.now ≡ c.args.self.now = c.deref_mut.ensures.value ∙ c.self.view_is in
    let h : IsForeseen c.args.self.now c.foresee.new.next = subst (λ (n : NetState). IsForeseen n c.foresee.new.next) net c.foresee.ensures.kept in
    known_close c.args.self.now c.foresee.new.next c.args.begin c.foresee.result c.foresee.ensures.some c.foresee.ensures.close c.requires.begins h
