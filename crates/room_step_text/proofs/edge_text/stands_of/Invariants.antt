use Rattle.std.proofs.Common.{◌≡◌, ◌≤◌, length, map, take}
use Rattle.std.specs.List.{flat_map}
use Rattle.room_step_text.specs.EdgeText.{position_value, stand_part, standing_device}
use Rattle.room_step_text.proofs.edge_text.stands_of.Given as goal

-- the devices so far
abbrev pub invariant-loop-device : goal.invariant-loop-device
invariant-loop-device l = record {
  parts : map stand_part l.stands.items ≡ flat_map (standing_device (position_value l.position)) (take l.device-index l.devices);
  few : length l.stands.items ≤ l.device-index;
}
