use Rattle.std.proofs.Common.{length}
use Rattle.expect_told.proofs.senders.+add_holdings.Given as goal

abbrev pub decreases-add_holdings : goal.decreases-add_holdings
decreases-add_holdings g l = length l.held.now
