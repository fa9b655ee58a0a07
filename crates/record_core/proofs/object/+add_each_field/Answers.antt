use Rattle.std.proofs.lemmas.List.{take_rest}
use Rattle.record_core.specs.Cells.{plain_of}
use Rattle.record_core.specs.Records.{field_text}
use Rattle.record_core.specs.declared.cell.Cell.{Cell}
use Rattle.record_core.proofs.Plain.{first}
use Rattle.record_core.proofs.object.+add_each_field.Goals as goal

pub returns-in-len1-up : goal.returns-in-len1-up
returns-in-len1-up g t c =
    first (λ (y : Cell). field_text (plain_of y)) c.args.cells.now _ _ _ _ c.in-len1-up.len_at_least c.add_field.ensures (rw take_rest at c.add_each_field.ensures)
