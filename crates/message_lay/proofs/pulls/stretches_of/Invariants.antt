use Rattle.std.proofs.Common.{◌≡◌, ◌≤◌, ◌+◌, ◌*◌, ◌^◌, ◌++◌, ◌∷◌, drop, length}
use Rattle.message_lay.specs.Bits.{stretches_of}
use Rattle.message_lay.proofs.pulls.stretches_of.Given as goal

-- what is laid so far and the slots that are left are all
abbrev pub invariant-loop-slot : goal.invariant-loop-slot
invariant-loop-slot l = record {
  laid : l.pulls.items ++ stretches_of l.fall (drop l.slot-index l.slots) ≡ stretches_of l.start (l.fn.begin ∷ l.slots);
  falls : l.fall ≤ l.start + 2 ^ 32 * (l.slot-index + 1);
  count : length l.pulls.items ≡ l.slot-index + 1;
}
