use Rattle.std.proofs.Common.{◌≡◌, ◌-◌, ◌≤◌, length, take}
use Rattle.line_frames.specs.Bits.{frame_bits}
use Rattle.room_drives.proofs.seat.push_bits.Given as goal

-- the bits so far
abbrev pub invariant-filling : goal.invariant-filling
invariant-filling l = record {
  bits : l.bits.items ≡ take l.slot (frame_bits l.frame);
  few : l.slot ≤ length (frame_bits l.frame);
}

abbrev pub decreases-filling : goal.decreases-filling
decreases-filling l = length (frame_bits l.frame) - l.slot
