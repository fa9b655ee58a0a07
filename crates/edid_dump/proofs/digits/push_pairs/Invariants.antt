use Rattle.std.proofs.Common.{◌≡◌, length, IsSome}
use Rattle.edid_dump.specs.Digits.{bytes_with_row, pairs}
use Rattle.edid_dump.proofs.digits.push_pairs.Given as goal

abbrev pub invariant-pairs : goal.invariant-pairs
invariant-pairs l = record {
  so_far : bytes_with_row l.bytes.items (pairs l.column l.rest) ≡ bytes_with_row l.fn.bytes.items (pairs l.column l.text);
  some : IsSome (pairs l.column l.rest);
}

abbrev pub decreases-pairs : goal.decreases-pairs
decreases-pairs l = length l.rest
