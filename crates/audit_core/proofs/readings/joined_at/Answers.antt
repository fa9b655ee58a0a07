use Rattle.std.proofs.Common.{◌+◌, List, drop, false, get_or, sym, subst}
use Rattle.line_wave.specs.declared.Edge.{Edge}
use Rattle.capture_core.specs.Edges.{IsCapture}
use Rattle.capture_join.specs.Joined.{FindsEnd}
use Rattle.audit_core.proofs.Audited.{next_edge, no_edge}
use Rattle.audit_core.proofs.Idle.{Searches, search_end, search_first, search_more}
use Rattle.audit_core.proofs.readings.joined_at.Goals as goal

abbrev none : Edge
none = record { at = 0; low = false }

pub loop-edge-init : goal.loop-edge-init
loop-edge-init c =
    let now = c.args.capture.now in
    subst (λ (es : List Edge). Searches now.edges es now.end c.new-search.result) (sym c.edges-edges.ensures.edges) (search_first now.edges now.end c.new-search.result c.edges-edges.ensures.capture c.new-search.ensures)

pub loop-edge-preserved : goal.loop-edge-preserved
loop-edge-preserved c =
    let now = c.args.capture.now in
    let edges = c.edges-edges.result.now in
    let k = c.loop-edge.edge-index in
    search_more now.edges (get_or edges k none) (drop (k + 1) edges) now.end c.loop-edge.search c.edge.new.self
    (subst (λ (es : List Edge). Searches now.edges es now.end c.loop-edge.search) (next_edge edges k none c.loop-edge-test.true) c.loop-edge.invariant) c.edge.ensures.finds

pub returns : goal.returns
returns c =
    let now = c.args.capture.now in
    let edges = c.edges-edges.result.now in
    search_end now.edges now.end c.loop-edge.search c.end-2.result
    (subst (λ (es : List Edge). Searches now.edges es now.end c.loop-edge.search) (no_edge edges c.loop-edge.edge-index c.loop-edge-test.false) c.loop-edge.invariant)
    (subst (λ n. FindsEnd c.loop-edge.search n c.end-2.result) c.end.ensures.end c.end-2.ensures)
