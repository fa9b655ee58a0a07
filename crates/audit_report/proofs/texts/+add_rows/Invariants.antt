use Rattle.std.proofs.Common.{length}
use Rattle.audit_report.proofs.texts.+add_rows.Given as goal

abbrev pub decreases-add_rows : goal.decreases-add_rows
decreases-add_rows g l = length l.rows.now
