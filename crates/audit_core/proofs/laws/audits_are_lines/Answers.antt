use Rattle.audit_core.proofs.AsLines.{are_lines, readings_lines}
use Rattle.audit_core.proofs.laws.audits_are_lines.Goals as goal

pub returns-clause-audits : goal.returns-clause-audits
returns-clause-audits c = are_lines

pub returns-clause-readings : goal.returns-clause-readings
returns-clause-readings c = readings_lines
