use Rattle.std.proofs.Common.{◌≡◌, length, IsSome}
use Rattle.edid_dump.specs.Digits.{bytes_with_row, listed}
use Rattle.edid_dump.proofs.lists.push_listed.Given as goal

abbrev pub invariant-bytes : goal.invariant-bytes
invariant-bytes l = record {
  so_far : bytes_with_row l.bytes.items (listed l.rest) ≡ bytes_with_row l.fn.bytes.items (listed l.text);
  some : IsSome (listed l.rest);
}

abbrev pub decreases-bytes : goal.decreases-bytes
decreases-bytes l = length l.rest
