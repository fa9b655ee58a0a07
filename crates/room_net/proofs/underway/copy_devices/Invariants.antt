use Rattle.std.proofs.Common.{◌≡◌, take}
use Rattle.arrayvec.specs.ArrayVec.{array_vec_len}
use Rattle.room_net.proofs.underway.copy_devices.Given as goal

-- the devices so far
abbrev pub invariant-loop-device : goal.invariant-loop-device
invariant-loop-device l = record {
  items : l.copy.items ≡ take l.device-index l.devices;
  len : array_vec_len l.copy ≡ l.device-index;
}
