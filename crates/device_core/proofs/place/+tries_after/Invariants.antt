use Rattle.std.proofs.Common.{length}
use Rattle.device_core.proofs.place.+tries_after.Given as goal

-- the addresses that are left
abbrev pub decreases-tries_after : goal.decreases-tries_after
decreases-tries_after l = length l.list.now
