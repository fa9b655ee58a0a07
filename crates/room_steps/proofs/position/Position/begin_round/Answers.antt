use Rattle.std.proofs.Common.{◌∙◌, ap, drop, subst, sym}
use Rattle.line_wave.specs.Line.{IsWave}
use Rattle.room_net.specs.State.{NetState}
use Rattle.room_steps.specs.Ready.{point_of}
use Rattle.room_steps.specs.Steps.{Point}
use Rattle.room_steps.proofs.Rounds.{begins_at}
use Rattle.room_steps.proofs.position.Position.begin_round.Goals as goal

pub returns : goal.returns
returns c =
    let end = c.args.input.now.end in
    let es = c.args.input.now.events.items in
    let p = point_of es c.args.self.now in
    let mid = c.pass_events.new.self in
    let passes = c.pass_events.ensures in
    let comes = c.in_ok-_begin.ensures.comes in
    let begun = c.if-not-begin.ensures in
    let state = c.next_edge.ensures.state in
    let before = c.deref_mut.result.now in
    let order = subst (λ (n : NetState). IsWave n.pulses) (sym c.deref_mut.ensures.value) passes.ready.order in
    begins_at end _ p (record { net = c.next_edge.new.self; events = drop mid.applied es; is_first = mid.is_first })
    before c.deref_mut-2.result.now c.next_edge.new.self c.next_edge.result comes (ap (λ (at : Point). at.net) (sym passes.point) ∙ sym c.deref_mut.ensures.value) order
    begun.0 begun.1 (c.deref_mut-2.ensures.value ∙ begun.2) c.next_edge.ensures.edge state.0 state.1 state.2 (ap (λ (at : Point). record at { net = c.next_edge.new.self }) passes.point)
