use Rattle.std.proofs.Common.{arith, ap, length, map}
use Rattle.edid_fields.proofs.Tiles.{fields_fit}
use Rattle.edid_fields.specs.Fields.{at_first, parts_at}
use Rattle.edid_fields.specs.Forms.{part_in_code, table_in_code}
use Rattle.edid_fields.proofs.walking.walk.Goals as goal

pub add_parts-end-requires-clause-room : goal.add_parts-end-requires-clause-room
add_parts-end-requires-clause-room c =
    let none = ap length c.new-fields.ensures in
    let fit = fields_fit (table_in_code c.args.table.now) c.args.payload.now c.requires.table c.requires.few in
    let same = ap (λ starts. length (parts_at c.args.payload.now starts at_first (map part_in_code c.args.table.now))) c.new-starts.ensures in
    omega (arith, none, fit, same)
