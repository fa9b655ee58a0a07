use Rattle.std.proofs.Common.{length}
use Rattle.live_session.proofs.edges.+first_pinned.Given as goal

abbrev pub decreases-first_pinned : goal.decreases-first_pinned
decreases-first_pinned l = length l.stretches.now
