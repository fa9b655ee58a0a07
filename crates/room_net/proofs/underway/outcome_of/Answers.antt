use Rattle.std.proofs.Common.{◌∙◌, sym, subst, arith, refl, take, List, ℕ}
use Rattle.line_rounds.specs.declared.Seat.{Seat}
use Rattle.line_rounds.specs.Round.{IsRound}
use Rattle.room_net.proofs.InRound.{silent_when, goes_on_when, round_on}
use Rattle.room_net.proofs.underway.outcome_of.Goals as goal

pub edges-init : goal.edges-init
edges-init c = record { takes = c.requires.takes; same = record { seats = refl; begin = refl } }

pub edges-smaller : goal.edges-smaller
edges-smaller c =
    let e = c.next_edge_of.ensures in
    let later = goes_on_when c.next_edge_of.result c.edges.wire c.next_edge_of.new.wire (sym c.is_some.ensures ∙ c.edges-test.true) e.goes in
    omega (arith, later, e.takes.stands.near)

pub edges-preserved : goal.edges-preserved
edges-preserved c =
    let e = c.next_edge_of.ensures in
    let i = c.edges.invariant.same in
    record { takes = e.takes; same = record { seats = e.round.seats ∙ i.seats; begin = e.round.begin ∙ i.begin } }

pub finish-requires-clause-begun : goal.finish-requires-clause-begun
finish-requires-clause-begun c = (take c.next_edge_of.new.wire.begun c.args.pulses.now, c.next_edge_of.ensures.takes.stands)

pub finish-requires-clause-silent : goal.finish-requires-clause-silent
finish-requires-clause-silent c = silent_when c.next_edge_of.result c.next_edge_of.new.wire _ (sym c.is_some.ensures ∙ c.edges-test.false) c.next_edge_of.ensures.goes

pub returns : goal.returns
returns c =
    let e = c.next_edge_of.ensures in
    let i = c.edges.invariant.same in
    let w = c.next_edge_of.new.wire in
    subst (λ (b : ℕ). IsRound c.args.wire.seats.items b c.args.pulses.now c.finish.result) (e.round.begin ∙ i.begin)
    (subst (λ (ss : List Seat). IsRound ss w.begin c.args.pulses.now c.finish.result) (e.round.seats ∙ i.seats)
    (round_on c.args.pulses.now w c.finish.result e.takes (c.finish.ensures.round (take w.begun c.args.pulses.now) e.takes.stands)))
