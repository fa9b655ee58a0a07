use Rattle.std.proofs.Common.{length}
use Rattle.expect_text.proofs.names.+holds_in.Given as goal

abbrev pub decreases-holds_in : goal.decreases-holds_in
decreases-holds_in l = length l.word.now
