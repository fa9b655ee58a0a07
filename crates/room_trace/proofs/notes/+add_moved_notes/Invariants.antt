use Rattle.std.proofs.Common.{length}
use Rattle.room_trace.proofs.notes.+add_moved_notes.Given as goal

-- the devices that are left
abbrev pub decreases-add_moved_notes : goal.decreases-add_moved_notes
decreases-add_moved_notes g l = length l.devices.now
