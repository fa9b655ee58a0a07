use Rattle.std.proofs.Common.{◌≡◌, ◌+◌, ◌*◌, length, take}
use Rattle.message_text.specs.FrameText.{raw_text}
use Rattle.message_text.proofs.spelling.raw_text.Given as goal

abbrev pub invariant-loop-byte : goal.invariant-loop-byte
invariant-loop-byte l = record {
  so_far : l.items.items ≡ raw_text (take l.byte-index l.operands);
  count : length l.items.items ≡ 2 + 2 * l.byte-index;
}
