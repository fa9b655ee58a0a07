use Rattle.edid_fields.specs.Forms.{table_in_code}
use Rattle.conversion_fields.proofs.Adding.{block_added}
use Rattle.conversion_fields.specs.Parts.{part_text}
use Rattle.conversion_fields.proofs.blocks.add_block.Goals as goal

pub returns : goal.returns
unfolding part_text
returns g c =
    block_added c.args.number c.args.at c.add_front-end.result c.args.block.now (table_in_code c.front_parts.result.now) (table_in_code c.body_parts.result.now) c.as_slice-payload.result.now c.after-body.result.now _
    c.args.out.now c.add_object.new.out c.add_head.new.out c.add_front-end.new.out c.add_all.new.out c.as_slice-payload.ensures.value c.front_parts.ensures.value c.add_front-end.ensures.end c.after-body.ensures
    c.body_parts.ensures.value c.add_object.ensures c.add_head.ensures c.add_front-end.ensures.text c.add_all.ensures
