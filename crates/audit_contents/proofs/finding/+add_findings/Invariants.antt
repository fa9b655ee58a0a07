use Rattle.std.proofs.Common.{length}
use Rattle.audit_contents.proofs.finding.+add_findings.Given as goal

abbrev pub decreases-add_findings : goal.decreases-add_findings
decreases-add_findings l = length l.rules.now
