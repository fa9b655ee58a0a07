use Rattle.std.proofs.Common.{length}
use Rattle.capture_monitor.proofs.edge_text.+add_edges.Given as goal

abbrev pub decreases-add_edges : goal.decreases-add_edges
decreases-add_edges g l = length l.stretches.now
