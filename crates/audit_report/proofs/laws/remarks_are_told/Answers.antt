use Rattle.audit_report.proofs.Remarks.{remarks_are}
use Rattle.audit_report.proofs.laws.remarks_are_told.Goals as goal

pub returns : goal.returns
returns c = remarks_are
