use Rattle.edid_fields.proofs.Values.{all-same}
use Rattle.edid_fields.specs.Forms.{table_in_code}
use Rattle.edid_fields.proofs.laws.values_are_the_bits.Goals as goal

pub returns : goal.returns
returns c = all-same (table_in_code c.args.table.now) c.args.payload.now c.requires
