use Rattle.std.proofs.Common.{length}
use Rattle.device_core.proofs.device.Device.+say_all.Given as goal

-- what is left to say
abbrev pub decreases-say_all : goal.decreases-say_all
decreases-say_all g l = length l.says.now
