use Rattle.std.proofs.Common.{◌≡◌, take}
use Rattle.expect_text.specs.Said.{literal}
use Rattle.expect_text.proofs.said.literal.Given as goal

abbrev pub invariant-loop-byte : goal.invariant-loop-byte
invariant-loop-byte l = record {
  so_far : l.parts.items ≡ literal (take l.byte-index l.text);
}
