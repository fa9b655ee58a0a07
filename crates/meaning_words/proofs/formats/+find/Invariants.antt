use Rattle.std.proofs.Common.{length}
use Rattle.meaning_words.proofs.formats.+find.Given as goal

abbrev pub decreases-find : goal.decreases-find
decreases-find l = length l.formats.now
