use Rattle.std.proofs.Common.{◌≡◌, length}
use Rattle.expect_run.specs.States.{device_of}
use Rattle.expect_run.proofs.states.device_of.Given as goal

-- none before has the name
abbrev pub invariant-devices : goal.invariant-devices
invariant-devices l = device_of l.name l.devices ≡ device_of l.name l.rest

abbrev pub decreases-devices : goal.decreases-devices
decreases-devices l = length l.rest
