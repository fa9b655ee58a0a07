use Rattle.std.proofs.Common.{length}
use Rattle.audit_widths.proofs.low.+push_lows.Given as goal

abbrev pub decreases-push_lows : goal.decreases-push_lows
decreases-push_lows l = length l.edges.now
