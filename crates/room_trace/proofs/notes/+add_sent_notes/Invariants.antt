use Rattle.std.proofs.Common.{length}
use Rattle.room_trace.proofs.notes.+add_sent_notes.Given as goal

-- the devices that are left
abbrev pub decreases-add_sent_notes : goal.decreases-add_sent_notes
decreases-add_sent_notes g l = length l.devices.now
