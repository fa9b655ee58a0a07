use Rattle.std.proofs.Common.{length}
use Rattle.rules_check.proofs.checking.+add_rules.Given as goal

abbrev pub decreases-add_rules : goal.decreases-add_rules
decreases-add_rules l = length l.rules.now
