use Rattle.std.proofs.Common.{length}
use Rattle.audit_expect.proofs.faults.+is_first_of_any.Given as goal

abbrev pub decreases-is_first_of_any : goal.decreases-is_first_of_any
decreases-is_first_of_any l = length l.forms.now
