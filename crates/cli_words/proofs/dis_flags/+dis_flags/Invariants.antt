use Rattle.std.proofs.Common.{length}
use Rattle.cli_words.proofs.dis_flags.+dis_flags.Given as goal

abbrev pub decreases-dis_flags : goal.decreases-dis_flags
decreases-dis_flags l = length l.words.now
