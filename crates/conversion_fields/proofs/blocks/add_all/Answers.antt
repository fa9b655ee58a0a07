use Rattle.edid_fields.specs.Forms.{table_in_code}
use Rattle.conversion_fields.proofs.Adding.{all_added}
use Rattle.conversion_fields.proofs.blocks.add_all.Goals as goal

pub returns : goal.returns
returns g c =
    all_added c.args.number c.args.at c.add_front-end.result (table_in_code c.args.table.now) c.args.bytes.now c.after.result.now c.args.out.now c.add_front-end.new.out c.add_bytes.new.out
    c.add_front-end.ensures.end c.after.ensures c.add_front-end.ensures.text c.add_bytes.ensures
