use Rattle.std.proofs.Common.{length}
use Rattle.expect_told.proofs.senders.+add_all_held.Given as goal

abbrev pub decreases-add_all_held : goal.decreases-add_all_held
decreases-add_all_held g l = length l.devices.now
