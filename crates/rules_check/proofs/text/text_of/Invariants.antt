use Rattle.std.proofs.Common.{◌≡◌, ◌≤◌, ◌*◌, length, take, flat_map}
use Rattle.rules_check.specs.Text.{finding_text}
use Rattle.rules_check.proofs.text.text_of.Given as goal

abbrev pub invariant-loop-finding : goal.invariant-loop-finding
invariant-loop-finding l = record {
  items : l.text.items ≡ flat_map finding_text (take l.finding-index l.found);
  len : length l.text.items ≤ 40 * l.finding-index;
}
