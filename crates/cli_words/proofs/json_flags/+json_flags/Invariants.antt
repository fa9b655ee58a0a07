use Rattle.std.proofs.Common.{length}
use Rattle.cli_words.proofs.json_flags.+json_flags.Given as goal

abbrev pub decreases-json_flags : goal.decreases-json_flags
decreases-json_flags l = length l.words.now
