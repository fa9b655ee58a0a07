use Rattle.std.proofs.Common.{◌≡◌, ◌+◌, ◌≤◌, length}
use Rattle.edid_dump.specs.Digits.{pairs}
use Rattle.edid_dump.proofs.Pairing.{counts}
use Rattle.edid_dump.proofs.digits.pair_count.Given as goal

abbrev pub invariant-pairs : goal.invariant-pairs
invariant-pairs l = record {
  so_far : counts l.count (pairs l.column l.rest) ≡ counts 0 (pairs l.column l.text);
  room : l.count + length l.rest ≤ length l.text;
}

abbrev pub decreases-pairs : goal.decreases-pairs
decreases-pairs l = length l.rest
