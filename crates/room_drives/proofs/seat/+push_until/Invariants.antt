use Rattle.std.proofs.Common.{length}
use Rattle.room_drives.proofs.seat.+push_until.Given as goal

abbrev pub decreases-push_until : goal.decreases-push_until
decreases-push_until l = length l.stretches.now
