use Rattle.std.proofs.Common.{length}
use Rattle.rules_values.proofs.codes.+repeats.Given as goal

abbrev pub decreases-repeats : goal.decreases-repeats
decreases-repeats l = length l.codes.now
