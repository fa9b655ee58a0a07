use Rattle.record_core.specs.Cells.{plain_of}
use Rattle.record_core.specs.Records.{field_text}
use Rattle.record_core.proofs.Plain.{adds_as, mapped}
use Rattle.record_core.proofs.object.add_cell_fields.Goals as goal

pub returns : goal.returns
returns g c = adds_as c.args.out.now c.add_each_field.new.out _ _ (mapped field_text plain_of c.args.cells.now) c.add_each_field.ensures
