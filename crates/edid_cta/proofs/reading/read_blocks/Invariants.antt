use Rattle.std.proofs.Common.{◌≡◌, ◌≤◌, ◌+◌, ◌++◌, length, flat_map}
use Rattle.edid_cta.specs.Block.{block_bytes}
use Rattle.edid_cta.proofs.reading.read_blocks.Given as goal

abbrev pub invariant-loop-rest : goal.invariant-loop-rest
invariant-loop-rest l = record {
  read : flat_map block_bytes l.blocks.items ++ l.rest ≡ l.bytes;
  room : length l.blocks.items + length l.rest ≤ length l.bytes;
}

abbrev pub decreases-loop-rest : goal.decreases-loop-rest
decreases-loop-rest l = length l.rest
