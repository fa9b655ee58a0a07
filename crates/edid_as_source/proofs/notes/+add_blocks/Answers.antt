use Rattle.std.proofs.Common.{rules}
use Rattle.edid_as_source.proofs.Noting.{one_more}
use Rattle.edid_as_source.proofs.notes.+add_blocks.Goals as goal

pub returns : goal.returns
returns g t c =
    one_more _ _ _ c.args.room c.args.number c.args.count c.room_after.result c.args.rest.now c.split_at.result.0.now c.split_at.result.1.now (search rules)
    c.split_at.ensures.front c.split_at.ensures.back c.room_after.ensures c.add_block.ensures c.add_blocks.ensures
