use Rattle.std.proofs.Common.{length}
use Rattle.follow_audit.proofs.settled.+has_next.Given as goal

abbrev pub decreases-has_next : goal.decreases-has_next
decreases-has_next l = length l.edges.now
