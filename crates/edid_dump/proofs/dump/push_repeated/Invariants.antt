use Rattle.std.proofs.Common.{◌≡◌, ◌+◌, ◌≤◌, length}
use Rattle.edid_dump.specs.Dump.{with_repeats}
use Rattle.edid_dump.proofs.dump.push_repeated.Given as goal

abbrev pub invariant-bytes : goal.invariant-bytes
invariant-bytes l = record {
  so_far : with_repeats l.left l.bytes.items ≡ with_repeats l.fn.count l.fn.bytes.items;
  room : length l.bytes.items + l.left ≤ 512;
}

abbrev pub decreases-bytes : goal.decreases-bytes
decreases-bytes l = l.left
