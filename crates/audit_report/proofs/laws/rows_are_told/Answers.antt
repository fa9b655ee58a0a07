use Rattle.audit_report.proofs.Rows.{rows_are}
use Rattle.audit_report.proofs.laws.rows_are_told.Goals as goal

pub returns : goal.returns
returns c = rows_are
