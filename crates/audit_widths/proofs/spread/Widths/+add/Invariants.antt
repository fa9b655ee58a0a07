use Rattle.std.proofs.Common.{length}
use Rattle.audit_widths.proofs.spread.Widths.+add.Given as goal

abbrev pub decreases-add : goal.decreases-add
decreases-add l = length l.lows.now
