use Rattle.std.proofs.Common.{◌≡◌, ◌+◌, ◌*◌, ◌++◌, length, take, flat_map}
use Rattle.edid_base.specs.Standard.{standard_bytes}
use Rattle.edid_base.proofs.base.append_standards.Given as goal

abbrev pub invariant-loop-standard : goal.invariant-loop-standard
invariant-loop-standard l = record {
  items : l.block.items ≡ l.fn.block.items ++ flat_map standard_bytes (take l.standard-index l.standards);
  len : length l.block.items ≡ 38 + 2 * l.standard-index;
}
