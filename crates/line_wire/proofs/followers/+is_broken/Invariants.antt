use Rattle.std.proofs.Common.{length}
use Rattle.line_wire.proofs.followers.+is_broken.Given as goal

-- the list gets shorter
abbrev pub decreases-is_broken : goal.decreases-is_broken
decreases-is_broken l = length l.seats.now
