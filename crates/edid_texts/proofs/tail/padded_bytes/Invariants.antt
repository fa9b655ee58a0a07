use Rattle.std.proofs.Common.{◌≡◌, ◌≤◌, ◌-◌, ◌++◌, length, replicate}
use Rattle.edid_texts.proofs.tail.padded_bytes.Given as goal

abbrev pub invariant-loop-tail : goal.invariant-loop-tail
invariant-loop-tail l = record {
  items : l.tail.items ≡ l.bytes ++ replicate (length l.tail.items - length l.bytes) 0;
  least : length l.bytes ≤ length l.tail.items;
  most : length l.tail.items ≤ l.left;
}

abbrev pub decreases-loop-tail : goal.decreases-loop-tail
decreases-loop-tail l = l.left - length l.tail.items
