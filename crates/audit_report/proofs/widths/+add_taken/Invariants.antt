use Rattle.std.proofs.Common.{length}
use Rattle.audit_report.proofs.widths.+add_taken.Given as goal

abbrev pub decreases-add_taken : goal.decreases-add_taken
decreases-add_taken l = length l.lows.now
