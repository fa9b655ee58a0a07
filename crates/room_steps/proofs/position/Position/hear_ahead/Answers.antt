use Rattle.std.proofs.Common.{◌≡◌, ◌∙◌, Some, ap, sym, refl}
use Rattle.room_net.specs.State.{NetState}
use Rattle.room_steps.proofs.InRound.{ahead_of}
use Rattle.room_steps.proofs.position.Position.hear_ahead.Goals as goal

pub returns-clause-ahead : goal.returns-clause-ahead
returns-clause-ahead c =
    let s : NetState = c.deref_mut.result.now in
    let heard = c.next_edge-edge.ensures in
    let written = c.in-Some-heard_until.written in
    let was : Some written ≡ s.heard = c.in-Some-heard_until.ensures ∙ ap (λ (n : NetState). n.heard) (c.deref.ensures ∙ sym c.deref_mut.ensures.value) in
    let ahead = ahead_of s c.next_edge-edge.new.self written heard.state.0 c.next_edge-edge.result was heard.state.1 heard.edge heard.state.2 in
    (record { written = written; edge = c.next_edge-edge.result }, refl, refl, ahead.1)
