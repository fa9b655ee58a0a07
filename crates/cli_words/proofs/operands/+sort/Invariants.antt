use Rattle.std.proofs.Common.{length}
use Rattle.cli_words.proofs.operands.+sort.Given as goal

abbrev pub decreases-sort : goal.decreases-sort
decreases-sort l = length l.words.now
