use Rattle.std.proofs.Common.{length}
use Rattle.audit_contents.proofs.rules.+shares.Given as goal

abbrev pub decreases-shares : goal.decreases-shares
decreases-shares l = length l.others.now
