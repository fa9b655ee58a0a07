use Rattle.std.proofs.Common.{◌≤◌, ◌+◌, length, ◌∙◌, ap, arith}
use Rattle.edid_cta.specs.Block.{block_bytes}
use Rattle.edid_cta.proofs.Growing.{room_for}
use Rattle.edid_cta.proofs.ext.append_blocks.Goals as goal

pub append-requires : goal.append-requires
append-requires c =
    let room = room_for block_bytes c.args.blocks.now c.loop-block.block-index c.block-item.result c.args.out.now.items c.loop-block.out.items
    c.loop-block-test.true c.block-item.is c.loop-block.invariant c.requires in
    let same = ap length (c.as_slice.ensures.value ∙ c.write.ensures) in
    let all : length c.loop-block.out.items + length c.as_slice.result.now ≤ 123 = omega (arith, room, same) in
    (omega arith, all)
