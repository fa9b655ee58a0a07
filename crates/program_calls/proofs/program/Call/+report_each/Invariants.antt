use Rattle.std.proofs.Common.{length}
use Rattle.program_calls.proofs.program.Call.+report_each.Given as goal

abbrev pub decreases-report_each : goal.decreases-report_each
decreases-report_each g l = length l.names.now
