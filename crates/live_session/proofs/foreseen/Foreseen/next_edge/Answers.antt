use Rattle.std.proofs.Common.{rules, ◌≡◌, ◌∙◌, Some, subst, ap, ap₂}
use Rattle.room_net.specs.State.{NetState}
use Rattle.live_session.specs.Turns.{IsForeseen}
use Rattle.live_session.specs.Edges.{first_edge, pinned_by}
use Rattle.live_session.specs.Session.{pin_by}
use Rattle.live_session.proofs.Foreseeing.{known_edges}
use Rattle.live_session.proofs.foreseen.Foreseen.next_edge.Goals as goal

pub returns-clause-edge : goal.returns-clause-edge
returns-clause-edge c =
    let net : c.deref_mut.result.now ≡ c.args.self.now = c.deref_mut.ensures.value ∙ c.self.view_is in
    let h : IsForeseen c.args.self.now c.foresee-close.new.next = subst (λ (n : NetState). IsForeseen n c.foresee-close.new.next) net c.foresee-close.ensures.kept in
    let is : c.foresee-close.new.next ≡ Some c.in-Some.outcome = search rules in
    let k = known_edges c.args.self.now c.foresee-close.new.next c.in-Some.outcome c.args.begin c.foresee-close.result c.requires.begins is h c.foresee-close.ensures.close in
    let pin : c.pin_by.result ≡ pin_by c.args.pin k.1.close = c.pin_by.ensures ∙ ap (pin_by c.args.pin) k.5 in
    (k.0, k.1, k.2, k.3, c.first_edge_by.ensures ∙ ap₂ (λ p w. first_edge c.args.from (pinned_by p w)) pin (c.as_slice.ensures.stretches ∙ k.4))
