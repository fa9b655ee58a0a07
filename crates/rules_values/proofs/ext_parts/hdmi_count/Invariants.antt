use Rattle.std.proofs.Common.{◌≡◌, ◌≤◌, ◌*◌, take}
use Rattle.rules_values.specs.ExtParts.{hdmi_count}
use Rattle.rules_values.proofs.ext_parts.hdmi_count.Given as goal

abbrev pub invariant-loop-ext : goal.invariant-loop-ext
invariant-loop-ext l = record {
  count : l.count ≡ hdmi_count (take l.ext-index l.extensions);
  small : l.count ≤ 123 * l.ext-index;
}
