use Rattle.std.proofs.Common.{◌≡◌, length, take, flat_map}
use Rattle.edid_cta.specs.Block.{block_bytes}
use Rattle.edid_cta.proofs.hdmi.spelled_len.Given as goal

abbrev pub invariant-loop-block : goal.invariant-loop-block
invariant-loop-block l = l.len ≡ length (flat_map block_bytes (take l.block-index l.blocks))
