use Rattle.std.proofs.Common.{◌≡◌, ◌+◌, ◌*◌, ◌/◌, true, length, take}
use Rattle.edid_ddc.specs.Bus.{has_segment}
use Rattle.edid_ddc.specs.Learn.{bytes_with_padding}
use Rattle.edid_ddc.proofs.learn.read_blocks.Given as goal

abbrev pub invariant-loop-block : goal.invariant-loop-block
invariant-loop-block l = record {
  same : l.ddc.bytes ≡ l.fn.ddc.bytes;
  acknowledged : has_segment l.fn.ddc.bytes (l.block / 2) ≡ true;
  len : length l.blocks.items ≡ 128 * (l.block + 1);
  read : l.blocks.items ≡ take (128 * (l.block + 1)) (bytes_with_padding l.fn.ddc.bytes);
}
