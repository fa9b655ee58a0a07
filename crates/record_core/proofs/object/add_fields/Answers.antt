use Rattle.std.proofs.Common.{map, sym}
use Rattle.std.proofs.lemmas.Grind.{flat_map-append}
use Rattle.text_core.proofs.Adding.{then}
use Rattle.record_core.specs.Cells.{plain_of}
use Rattle.record_core.specs.Records.{field_text}
use Rattle.record_core.proofs.Plain.{adds_as}
use Rattle.record_core.proofs.object.add_fields.Goals as goal

pub returns : goal.returns
returns g c =
    adds_as c.args.out.now c.add_cell_fields-2.new.out _ _ (sym (flat_map-append field_text (map plain_of c.args.cells.now) (map plain_of c.args.more.now)))
    (then _ _ _ _ _ c.add_cell_fields.ensures c.add_cell_fields-2.ensures)
