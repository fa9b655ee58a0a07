use Rattle.std.proofs.Common.{◌≡◌, map, take}
use Rattle.room_net.specs.Step.{seat_of}
use Rattle.room_net.proofs.step.seats_of.Given as goal

abbrev pub invariant-loop-device : goal.invariant-loop-device
invariant-loop-device l = l.seats.items ≡ map (seat_of l.rest l.begin) (take l.device-index l.devices)
