use Rattle.std.proofs.Common.{◌≡◌, ◌+◌, false, true, get_or, rules}
use Rattle.std.proofs.lemmas.List.{get_or_default}
use Rattle.line_wave.specs.declared.Edge.{Edge}
use Rattle.text_core.proofs.Adding.{more}
use Rattle.program_captures.specs.Edges.{edge_line}
use Rattle.program_captures.proofs.EdgeLemmas.{edges_cut}
use Rattle.program_captures.proofs.edges.add_edges.Goals as goal

pub loop-edge-preserved : goal.loop-edge-preserved
loop-edge-preserved g c =
    let none : Edge = record { at = 0; low = false } in
    let e : Edge = get_or c.args.edges.now c.loop-edge.edge-index none in
    more edge_line c.args.edges.now c.loop-edge.edge-index e _ _ _ c.loop-edge-test.true (get_or_default c.args.edges.now c.loop-edge.edge-index e none c.loop-edge-test.true) c.loop-edge.invariant c.add_edge.ensures

pub returns-then-has_failed : goal.returns-then-has_failed
returns-then-has_failed g c =
    let none : Edge = record { at = 0; low = false } in
    let e : Edge = get_or c.args.edges.now c.loop-edge.edge-index none in
    let failed : c.add_edge.new.out.failed ≡ true = search rules in
    edges_cut c.args.edges.now (c.loop-edge.edge-index + 1) _ _ failed
    (more edge_line c.args.edges.now c.loop-edge.edge-index e _ _ _ c.loop-edge-test.true (get_or_default c.args.edges.now c.loop-edge.edge-index e none c.loop-edge-test.true) c.loop-edge.invariant c.add_edge.ensures)
