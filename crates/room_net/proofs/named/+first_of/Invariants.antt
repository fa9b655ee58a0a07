use Rattle.std.proofs.Common.{length}
use Rattle.room_net.proofs.named.+first_of.Given as goal

-- the addresses that are left
abbrev pub decreases-first_of : goal.decreases-first_of
decreases-first_of l = length l.held.now
