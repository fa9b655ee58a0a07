use Rattle.std.proofs.Common.{◌≡◌, take}
use Rattle.arrayvec.specs.ArrayVec.{array_vec_len}
use Rattle.device_core.proofs.device.Device.copied_queue.Given as goal

-- the frames so far
abbrev pub invariant-loop-queued : goal.invariant-loop-queued
invariant-loop-queued g l = record {
  items : l.copy.items ≡ take l.queued-index l.queued-items;
  len : array_vec_len l.copy ≡ l.queued-index;
}
