use Rattle.capture_smooth.proofs.Pairs.{all_taken, capture_left}
use Rattle.capture_smooth.proofs.smoothing.smooth_edges.Goals as goal

pub new-requires : goal.new-requires
new-requires c =
    let edges = c.edges-edges.result.now in
    let left = all_taken c.args.shortest c.loop-edge.edge-index edges c.loop-edge.kept.items c.close.new.kept.items c.loop-edge.held c.loop-edge-test.false c.loop-edge.invariant (c.in_ok-close.ensures {u = tt}) in
    rw (left, c.edges-edges.ensures.edges, c.end.ensures.end) (capture_left c.args.shortest c.args.capture.now.edges c.args.capture.now.end c.end.ensures.capture)
