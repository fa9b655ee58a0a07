use Rattle.std.proofs.Common.{length}
use Rattle.audit_report.proofs.widths.+add_own.Given as goal

abbrev pub decreases-add_own : goal.decreases-add_own
decreases-add_own l = length l.lows.now
