use Rattle.std.proofs.Common.{◌≡◌, ◌+◌, ◌*◌, ◌++◌, length, take, flat_map}
use Rattle.edid_base.specs.Descriptor.{descriptor_bytes}
use Rattle.edid_base.proofs.base.append_descriptors.Given as goal

abbrev pub invariant-loop-descriptor : goal.invariant-loop-descriptor
invariant-loop-descriptor l = record {
  items : l.block.items ≡ l.fn.block.items ++ flat_map descriptor_bytes (take l.descriptor-index l.descriptors);
  len : length l.block.items ≡ 54 + 18 * l.descriptor-index;
}
