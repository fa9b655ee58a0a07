use Rattle.std.proofs.Common.{length}
use Rattle.audit_remarks.proofs.endings.+last_says.Given as goal

abbrev pub decreases-last_says : goal.decreases-last_says
decreases-last_says l = length l.lows.now
