use Rattle.std.proofs.Common.{length}
use Rattle.infoframe_check.proofs.fields.+add_reports.Given as goal

abbrev pub decreases-add_reports : goal.decreases-add_reports
decreases-add_reports g l = length l.reports.now
