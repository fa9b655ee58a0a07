use Rattle.std.proofs.Common.{length}
use Rattle.room_net.proofs.start.+least_start.Given as goal

abbrev pub decreases-least_start : goal.decreases-least_start
decreases-least_start l = length l.devices.now
