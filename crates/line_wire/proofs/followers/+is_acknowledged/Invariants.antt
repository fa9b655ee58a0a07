use Rattle.std.proofs.Common.{length}
use Rattle.line_wire.proofs.followers.+is_acknowledged.Given as goal

-- the list gets shorter
abbrev pub decreases-is_acknowledged : goal.decreases-is_acknowledged
decreases-is_acknowledged l = length l.seats.now
