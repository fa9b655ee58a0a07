use Rattle.conversion_fields.proofs.Adding.{plain_added}
use Rattle.conversion_fields.proofs.whole.add_plain.Goals as goal

pub returns-in-len1-up : goal.returns-in-len1-up
returns-in-len1-up g c =
    plain_added c.args.number c.args.at c.args.name.now c.args.bytes.now c.args.out.now c.add_part.new.out c.add_bytes.new.out c.in-len1-up.len_at_least c.add_part.ensures c.add_bytes.ensures
