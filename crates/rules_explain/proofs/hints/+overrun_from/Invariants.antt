use Rattle.std.proofs.Common.{length}
use Rattle.rules_explain.proofs.hints.+overrun_from.Given as goal

abbrev pub decreases-overrun_from : goal.decreases-overrun_from
decreases-overrun_from l = length l.extensions.now
