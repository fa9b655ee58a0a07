use Rattle.std.proofs.Common.{◌≡◌, take, false}
use Rattle.std.specs.List.{list_any}
use Rattle.room_net.specs.Start.{contends}
use Rattle.room_net.proofs.step.is_contended.Given as goal

abbrev pub invariant-loop-device : goal.invariant-loop-device
invariant-loop-device l = list_any (contends l.rest l.begin) (take l.device-index l.devices) ≡ false
