use Rattle.std.proofs.Common.{rules, ◌≡◌, ◌∙◌, Some, ap, subst}
use Rattle.room_net.specs.State.{NetState}
use Rattle.live_session.specs.Turns.{IsForeseen}
use Rattle.live_session.specs.Edges.{edges_reported, pinned_by}
use Rattle.live_session.proofs.Foreseeing.{known_round}
use Rattle.live_session.proofs.foreseen.Foreseen.add_edges.Goals as goal

pub returns-clause-edges : goal.returns-clause-edges
returns-clause-edges g c =
    let net : c.deref_mut.result.now ≡ c.args.self.now = c.deref_mut.ensures.value ∙ c.self.view_is in
    let h : IsForeseen c.args.self.now c.foresee-close.new.next = subst (λ (n : NetState). IsForeseen n c.foresee-close.new.next) net c.foresee-close.ensures.kept in
    let is : c.foresee-close.new.next ≡ Some c.in-Some.outcome = search rules in
    let k = known_round c.args.self.now c.foresee-close.new.next c.in-Some.outcome c.args.begin c.requires.begins is h in
    (edges_reported c.args.form c.args.span (pinned_by c.args.pin c.as_slice.result.now), (k.0, k.1, k.2, k.3, ap (λ w. edges_reported c.args.form c.args.span (pinned_by c.args.pin w)) (c.as_slice.ensures.stretches ∙ k.4)), c.add_edges_by.ensures)
