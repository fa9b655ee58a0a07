use Rattle.std.proofs.Common.{length}
use Rattle.audit_contents.proofs.contents.+any_fault.Given as goal

abbrev pub decreases-any_fault : goal.decreases-any_fault
decreases-any_fault l = length l.all.now
