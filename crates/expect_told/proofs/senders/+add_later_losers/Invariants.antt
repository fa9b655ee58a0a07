use Rattle.std.proofs.Common.{length}
use Rattle.expect_told.proofs.senders.+add_later_losers.Given as goal

abbrev pub decreases-add_later_losers : goal.decreases-add_later_losers
decreases-add_later_losers g l = length l.losers.now
