use Rattle.std.proofs.Common.{length}
use Rattle.room_drives.proofs.drives.+push_drives.Given as goal

abbrev pub decreases-push_drives : goal.decreases-push_drives
decreases-push_drives l = length l.seats.now
