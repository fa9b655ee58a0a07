use Rattle.std.proofs.Common.{length}
use Rattle.live_session.proofs.edges.+add_pinned.Given as goal

abbrev pub decreases-add_pinned : goal.decreases-add_pinned
decreases-add_pinned g l = length l.stretches.now
