use Rattle.std.proofs.Common.{◌≡◌, ◌+◌, ◌≤◌, ◌++◌, length}
use Rattle.edid_dump.specs.Digits.{swapped}
use Rattle.edid_dump.proofs.lists.swapped.Given as goal

abbrev pub invariant-words : goal.invariant-words
invariant-words l = record {
  so_far : l.words.items ++ swapped l.rest ≡ swapped l.bytes.items;
  room : length l.words.items + length l.rest ≤ 512;
}

abbrev pub decreases-words : goal.decreases-words
decreases-words l = length l.rest
