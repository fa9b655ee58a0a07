use Rattle.std.proofs.Common.{List, take, drop, ◌∙◌, sym, subst, arith}
use Rattle.line_wave.specs.declared.Stretch.{Stretch}
use Rattle.line_rounds.specs.Round.{IsRound}
use Rattle.line_wire.proofs.Rounding.{Rounds, rounds_begin, rounds_next, rounds_end, goes_later, goes_quiet}
use Rattle.line_wire.proofs.edge_wire.EdgeWireWire.round.Goals as goal

pub edges-init : goal.edges-init
edges-init c =
    let e = c.begin.ensures in
    subst (λ (ps : List Stretch). Rounds c.args.seats.now c.args.start ps c.begin.new.self) (sym c.split_at.ensures.back)
    (rounds_begin c.args.seats.now c.args.start c.skipped.result c.as_slice-stretches.result.now c.begin.new.self c.as_slice-stretches.ensures.timely c.skipped.ensures.late e.begun e.seats e.begin e.time)

pub next_edge_among-requires-clause-begun : goal.next_edge_among-requires-clause-begun
next_edge_among-requires-clause-begun c = c.edges.invariant.begun

pub next_edge_among-requires-clause-pulls : goal.next_edge_among-requires-clause-pulls
next_edge_among-requires-clause-pulls c = c.edges.invariant.pulls_are

pub edges-smaller : goal.edges-smaller
edges-smaller c =
    let e = c.next_edge_among.ensures in
    let l = goes_later c.next_edge_among.result c.edges.self c.next_edge_among.new.self (sym c.is_some.ensures ∙ c.edges-test.true) e.goes in
    omega (arith, l, e.begun.near)

pub edges-preserved : goal.edges-preserved
edges-preserved c =
    let e = c.next_edge_among.ensures in
    rounds_next c.args.seats.now c.args.start c.split_at.result.1.now c.edges.self c.next_edge_among.new.self c.edges.invariant e.begun e.pulls e.round

pub finished-requires-clause-begun : goal.finished-requires-clause-begun
finished-requires-clause-begun c = (take c.next_edge_among.new.self.begun c.split_at.result.1.now, c.next_edge_among.ensures.begun)

pub finished-requires-clause-silent : goal.finished-requires-clause-silent
finished-requires-clause-silent c = goes_quiet c.next_edge_among.result c.edges.self c.next_edge_among.new.self (sym c.is_some.ensures ∙ c.edges-test.false) c.next_edge_among.ensures.goes

pub returns : goal.returns
returns c =
    let n = c.skipped.result in
    let ss = c.as_slice-stretches.result.now in
    let e = c.next_edge_among.ensures in
    let w = c.next_edge_among.new.self in
    let r : Rounds c.args.seats.now c.args.start (drop n ss) w =
    subst (λ (ps : List Stretch). Rounds c.args.seats.now c.args.start ps w) c.split_at.ensures.back
    (rounds_next c.args.seats.now c.args.start c.split_at.result.1.now c.edges.self w c.edges.invariant e.begun e.pulls e.round) in
    subst (λ (ps : List Stretch). IsRound c.args.seats.now c.args.start ps c.finished.result) c.as_slice-stretches.ensures.pulls
    (rounds_end c.args.seats.now c.args.start n ss w c.finished.result c.as_slice-stretches.ensures.timely c.skipped.ensures.before r (c.finished.ensures.round (take w.begun (drop n ss)) r.begun))
