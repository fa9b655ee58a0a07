use Rattle.std.proofs.Common.{length}
use Rattle.cli_words.proofs.mon_flags.+mon_flags.Given as goal

abbrev pub decreases-mon_flags : goal.decreases-mon_flags
decreases-mon_flags l = length l.words.now
