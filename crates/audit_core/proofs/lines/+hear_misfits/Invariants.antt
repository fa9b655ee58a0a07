use Rattle.std.proofs.Common.{length}
use Rattle.audit_core.proofs.lines.+hear_misfits.Given as goal

abbrev pub decreases-hear_misfits : goal.decreases-hear_misfits
decreases-hear_misfits g l = length l.lows.now
