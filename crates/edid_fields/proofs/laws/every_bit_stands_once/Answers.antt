use Rattle.edid_fields.proofs.Tiles.{every-bit}
use Rattle.edid_fields.specs.Forms.{table_in_code}
use Rattle.edid_fields.proofs.laws.every_bit_stands_once.Goals as goal

pub returns : goal.returns
returns c = every-bit (table_in_code c.args.table.now) c.args.payload.now c.requires
