use Rattle.std.proofs.Common.{◌≡◌, ◌++◌, take, flat_map}
use Rattle.edid_cta.specs.Block.{block_bytes}
use Rattle.edid_cta.proofs.ext.append_blocks.Given as goal

abbrev pub invariant-loop-block : goal.invariant-loop-block
invariant-loop-block l = l.out.items ≡ l.fn.out.items ++ flat_map block_bytes (take l.block-index l.blocks)
