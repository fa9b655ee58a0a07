use Rattle.std.proofs.Common.{length}
use Rattle.record_core.proofs.line.+add_each_word.Given as goal

abbrev pub decreases-add_each_word : goal.decreases-add_each_word
decreases-add_each_word g l = length l.cells.now
