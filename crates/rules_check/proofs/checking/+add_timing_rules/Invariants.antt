use Rattle.std.proofs.Common.{length}
use Rattle.rules_check.proofs.checking.+add_timing_rules.Given as goal

abbrev pub decreases-add_timing_rules : goal.decreases-add_timing_rules
decreases-add_timing_rules l = length l.rules.now
