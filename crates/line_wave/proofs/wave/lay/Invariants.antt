use Rattle.std.proofs.Common.{◌≡◌, ◌+◌, ◌*◌, ◌++◌, drop, length}
use Rattle.line_wave.specs.Sender.{slot_stretches, sender_stretches}
use Rattle.line_wave.proofs.wave.lay.Given as goal

-- what is laid so far and the slots that are left are all
abbrev pub invariant-loop-bit : goal.invariant-loop-bit
invariant-loop-bit l = record {
  laid : l.stretches.items ++ slot_stretches l.fall (drop l.bit-index l.bits) ≡ sender_stretches l.start l.bits;
  falls : l.fall ≡ l.start + 4500 + 2400 * l.bit-index;
  count : length l.stretches.items ≡ l.bit-index + 1;
}
