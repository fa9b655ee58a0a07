use Rattle.std.proofs.Common.{length}
use Rattle.room_trace.proofs.state_text.+add_units.Given as goal

-- the addresses that are left
abbrev pub decreases-add_units : goal.decreases-add_units
decreases-add_units l = length l.held.now
