use Rattle.std.proofs.Common.{length}
use Rattle.cli_words.proofs.check_flags.+check_flags.Given as goal

abbrev pub decreases-check_flags : goal.decreases-check_flags
decreases-check_flags l = length l.words.now
