use Rattle.audit_remarks.proofs.Due.{times_are_due}
use Rattle.audit_remarks.proofs.laws.free_times_are_due.Goals as goal

pub returns : goal.returns
returns c = times_are_due
