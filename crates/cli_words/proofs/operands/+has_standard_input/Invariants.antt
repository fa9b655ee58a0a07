use Rattle.std.proofs.Common.{length}
use Rattle.cli_words.proofs.operands.+has_standard_input.Given as goal

abbrev pub decreases-has_standard_input : goal.decreases-has_standard_input
decreases-has_standard_input l = length l.operands.now
