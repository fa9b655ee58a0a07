use Rattle.std.proofs.Common.{length}
use Rattle.expect_told.proofs.senders.+add_later_names.Given as goal

abbrev pub decreases-add_later_names : goal.decreases-add_later_names
decreases-add_later_names g l = length l.numbers.now
