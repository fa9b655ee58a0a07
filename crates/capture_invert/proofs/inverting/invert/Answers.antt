use Rattle.capture_invert.proofs.Turned.{all_turned, inverted_capture}
use Rattle.capture_invert.specs.Inverted.{inverted_edges}
use Rattle.capture_invert.proofs.inverting.invert.Goals as goal

pub new-requires : goal.new-requires
new-requires c =
    let left = all_turned c.loop-edge.edge-index c.loop-edge.kept.items c.in_ok-rest.rest.now (inverted_edges c.args.capture.now.edges) c.loop-edge-test.false c.loop-edge.invariant in
    rw (left, c.end.ensures.end) (inverted_capture c.args.capture.now.edges c.args.capture.now.end c.end.ensures.capture)
