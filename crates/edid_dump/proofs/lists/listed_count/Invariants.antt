use Rattle.std.proofs.Common.{◌≡◌, ◌+◌, ◌≤◌, length}
use Rattle.edid_dump.specs.Digits.{listed}
use Rattle.edid_dump.proofs.Pairing.{counts}
use Rattle.edid_dump.proofs.lists.listed_count.Given as goal

abbrev pub invariant-bytes : goal.invariant-bytes
invariant-bytes l = record {
  so_far : counts l.count (listed l.rest) ≡ counts 0 (listed l.text);
  room : l.count + length l.rest ≤ length l.text;
}

abbrev pub decreases-bytes : goal.decreases-bytes
decreases-bytes l = length l.rest
