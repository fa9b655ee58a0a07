use Rattle.std.proofs.Common.{length}
use Rattle.audit_contents.proofs.said.+same_bytes.Given as goal

abbrev pub decreases-same_bytes : goal.decreases-same_bytes
decreases-same_bytes l = length l.left.now
