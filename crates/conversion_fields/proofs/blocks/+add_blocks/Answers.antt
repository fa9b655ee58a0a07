use Rattle.std.proofs.Common.{◌∙◌}
use Rattle.std.proofs.lemmas.List.{take_rest}
use Rattle.conversion_fields.proofs.Adding.{blocks_added, blocks_ended}
use Rattle.conversion_fields.proofs.blocks.+add_blocks.Goals as goal

pub returns-in-len1-up-clause-text : goal.returns-in-len1-up-clause-text
returns-in-len1-up-clause-text g t c =
    blocks_added c.args.number c.args.at c.len.result c.args.blocks.now c.block-item.result _ _ _ _ c.in-len1-up.len_at_least c.block-item.is c.len.ensures.value c.add_block.ensures
    (rw take_rest at c.add_blocks.ensures.text)

pub returns-in-len1-up-clause-end : goal.returns-in-len1-up-clause-end
returns-in-len1-up-clause-end g t c =
    (rw take_rest at c.add_blocks.ensures.end) ∙ blocks_ended c.args.at c.len.result c.args.blocks.now c.block-item.result _ c.in-len1-up.len_at_least c.block-item.is c.len.ensures.value
