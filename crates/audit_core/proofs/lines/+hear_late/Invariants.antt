use Rattle.std.proofs.Common.{length}
use Rattle.audit_core.proofs.lines.+hear_late.Given as goal

abbrev pub decreases-hear_late : goal.decreases-hear_late
decreases-hear_late g l = length l.waiting.now
