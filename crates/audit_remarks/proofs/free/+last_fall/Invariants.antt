use Rattle.std.proofs.Common.{length}
use Rattle.audit_remarks.proofs.free.+last_fall.Given as goal

abbrev pub decreases-last_fall : goal.decreases-last_fall
decreases-last_fall l = length l.lows.now
