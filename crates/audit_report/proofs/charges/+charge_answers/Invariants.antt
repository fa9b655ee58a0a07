use Rattle.std.proofs.Common.{length}
use Rattle.audit_report.proofs.charges.+charge_answers.Given as goal

abbrev pub decreases-charge_answers : goal.decreases-charge_answers
decreases-charge_answers l = length l.waits.now
