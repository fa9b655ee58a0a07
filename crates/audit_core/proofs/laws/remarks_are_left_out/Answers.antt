use Rattle.audit_core.proofs.KeptLines.{by_line, remark_gone}
use Rattle.audit_core.proofs.laws.remarks_are_left_out.Goals as goal

pub returns-clause-line : goal.returns-clause-line
returns-clause-line c = by_line

pub returns-clause-remark : goal.returns-clause-remark
returns-clause-remark c = remark_gone
