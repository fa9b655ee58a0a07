use Rattle.std.proofs.Common.{◌≡◌, ◌≤◌, ◌+◌, ◌*◌, ◌++◌, length, take, flat_map}
use Rattle.rules_values.specs.ExtParts.{ext_timings}
use Rattle.rules_values.proofs.timings.append_extensions.Given as goal

abbrev pub invariant-loop-ext : goal.invariant-loop-ext
invariant-loop-ext l = record {
  items : l.timings.items ≡ l.fn.timings.items ++ flat_map ext_timings (take l.ext-index l.extensions);
  len : length l.timings.items ≤ 4 + 6 * l.ext-index;
}
