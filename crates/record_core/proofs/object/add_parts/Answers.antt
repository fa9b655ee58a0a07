use Rattle.std.proofs.lemmas.List.{take_rest}
use Rattle.record_core.proofs.Plain.{gathered_as}
use Rattle.record_core.specs.Cells.{part_json}
use Rattle.record_core.proofs.object.add_parts.Goals as goal

pub returns-in-len1-up : goal.returns-in-len1-up
returns-in-len1-up g c =
    gathered_as part_json c.args.parts.now _ c.args.out.now c.add_first_part.new.out c.add_other_parts.new.out c.in-len1-up.len_at_least c.add_first_part.ensures (rw take_rest at c.add_other_parts.ensures)
