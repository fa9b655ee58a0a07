use Rattle.std.proofs.Common.{length}
use Rattle.audit_contents.proofs.finding.+has_fault_by.Given as goal

abbrev pub decreases-has_fault_by : goal.decreases-has_fault_by
decreases-has_fault_by l = length l.rules.now
