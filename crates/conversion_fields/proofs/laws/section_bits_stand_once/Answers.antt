use Rattle.std.proofs.Common.{subst, ◌*◌, ◌≡◌, length, List}
use Rattle.edid_fields.specs.Forms.{Part, table_in_code}
use Rattle.edid_fields.specs.Tiling.{count}
use Rattle.conversion_fields.specs.Said.{all_said, said_bits}
use Rattle.conversion_fields.proofs.Tiles.{section_bits}
use Rattle.conversion_fields.proofs.laws.section_bits_stand_once.Goals as goal

pub returns : goal.returns
returns c at =
    let p = c.args.bytes.now in
    subst (λ (t : List Part). said_bits (all_said at t p) ≡ count (8 * at) (8 * length p)) c.section_parts.ensures.value
    (section_bits at (table_in_code c.section_parts.result.now) p c.every_bit_stands_once.ensures)
