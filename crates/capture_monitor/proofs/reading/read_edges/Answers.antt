use Rattle.capture_monitor.proofs.ReadEdges.{file_is_capture}
use Rattle.capture_monitor.proofs.reading.read_edges.Goals as goal

pub new-requires : goal.new-requires
new-requires c = file_is_capture c.args.text.now (record { edges = c.in_ok-edges.edges.items; end = c.in_ok-edges.end }) c.in_ok-edges.ensures
