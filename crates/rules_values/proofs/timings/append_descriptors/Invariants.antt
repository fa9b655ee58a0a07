use Rattle.std.proofs.Common.{◌≡◌, ◌≤◌, ◌++◌, length, take, flat_map}
use Rattle.rules_values.specs.ExtParts.{descriptor_timings}
use Rattle.rules_values.proofs.timings.append_descriptors.Given as goal

abbrev pub invariant-loop-descriptor : goal.invariant-loop-descriptor
invariant-loop-descriptor l = record {
  items : l.timings.items ≡ l.fn.timings.items ++ flat_map descriptor_timings (take l.descriptor-index l.descriptors);
  len : length l.timings.items ≤ l.descriptor-index;
}
