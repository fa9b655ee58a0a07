use Rattle.std.proofs.lemmas.List.{take_rest}
use Rattle.record_core.specs.Cells.{part_text}
use Rattle.record_core.proofs.Plain.{joined_as}
use Rattle.record_core.proofs.line.add_parts.Goals as goal

pub returns-in-len1-up : goal.returns-in-len1-up
returns-in-len1-up g c =
    joined_as c.args.quoted part_text c.args.sign.now c.args.parts.now _ _ _ _ c.in-len1-up.len_at_least c.add_led_part.ensures (rw take_rest at c.add_more_parts.ensures)
