use Rattle.std.proofs.Common.{length}
use Rattle.cli_words.proofs.run_flags.+run_flags.Given as goal

abbrev pub decreases-run_flags : goal.decreases-run_flags
decreases-run_flags l = length l.words.now
