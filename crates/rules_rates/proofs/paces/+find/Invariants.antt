use Rattle.std.proofs.Common.{length}
use Rattle.rules_rates.proofs.paces.+find.Given as goal

abbrev pub decreases-find : goal.decreases-find
decreases-find l = length l.paces.now
