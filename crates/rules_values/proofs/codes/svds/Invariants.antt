use Rattle.std.proofs.Common.{◌≡◌, ◌≤◌, ◌*◌, length, take, flat_map}
use Rattle.rules_values.specs.VideoCodes.{ext_svds}
use Rattle.rules_values.proofs.codes.svds.Given as goal

abbrev pub invariant-loop-ext : goal.invariant-loop-ext
invariant-loop-ext l = record {
  items : l.svds.items ≡ flat_map ext_svds (take l.ext-index l.extensions);
  len : length l.svds.items ≤ 123 * l.ext-index;
}
