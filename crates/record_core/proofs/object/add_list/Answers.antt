use Rattle.std.proofs.lemmas.List.{take_rest}
use Rattle.record_core.proofs.Plain.{listed_as}
use Rattle.record_core.specs.Cells.{item_json}
use Rattle.record_core.proofs.object.add_list.Goals as goal

pub returns-in-len1-up : goal.returns-in-len1-up
returns-in-len1-up g c =
    listed_as item_json c.args.pieces.now _ c.args.out.now c.add_first.new.out c.add_others.new.out c.in-len1-up.len_at_least c.add_first.ensures (rw take_rest at c.add_others.ensures)
