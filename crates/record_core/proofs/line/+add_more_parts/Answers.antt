use Rattle.std.proofs.lemmas.List.{take_rest}
use Rattle.std.proofs.Common.{◌++◌}
use Rattle.record_core.specs.Cells.{part_text}
use Rattle.record_core.specs.declared.cell.Part.{Part}
use Rattle.record_core.proofs.Plain.{first_as}
use Rattle.record_core.proofs.line.+add_more_parts.Goals as goal

pub returns-in-len1-up : goal.returns-in-len1-up
returns-in-len1-up g t c =
    first_as c.args.quoted (λ (y : Part). c.args.sign.now ++ part_text y) c.args.parts.now _ _ _ _ c.in-len1-up.len_at_least c.add_led_part.ensures (rw take_rest at c.add_more_parts.ensures)
