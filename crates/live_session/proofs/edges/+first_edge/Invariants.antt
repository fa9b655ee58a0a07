use Rattle.std.proofs.Common.{length}
use Rattle.live_session.proofs.edges.+first_edge.Given as goal

abbrev pub decreases-first_edge : goal.decreases-first_edge
decreases-first_edge l = length l.stretches.now
