use Rattle.std.proofs.Common.{length, ap, arith}
use Rattle.std.proofs.lemmas.List.Folds.{length-flat_map-take}
use Rattle.edid_cta.specs.Block.{block_bytes}
use Rattle.edid_cta.specs.declared.block.DataBlock.{DataBlock}
use Rattle.edid_cta.proofs.hdmi.spelled_len.Goals as goal

pub overflow_add-len-in-loop-block : goal.overflow_add-len-in-loop-block
overflow_add-len-in-loop-block c =
    let most = length-flat_map-take block_bytes c.args.blocks.now c.loop-block.block-index c.block-item.result c.loop-block-test.true in
    let same = ap (λ (b : DataBlock). length (block_bytes b)) c.block-item.is in
    omega (arith, most, same, c.len.ensures.value, c.loop-block.invariant, c.requires)
