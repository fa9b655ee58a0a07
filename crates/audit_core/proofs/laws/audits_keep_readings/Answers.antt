use Rattle.audit_core.proofs.KeptLines.{audits_keep_readings}
use Rattle.audit_core.proofs.laws.audits_keep_readings.Goals as goal

pub returns : goal.returns
returns c = audits_keep_readings
