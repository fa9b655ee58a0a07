use Rattle.std.proofs.Common.{length}
use Rattle.room_driven.proofs.head.+add_devices.Given as goal

abbrev pub decreases-add_devices : goal.decreases-add_devices
decreases-add_devices g l = length l.devices.now
