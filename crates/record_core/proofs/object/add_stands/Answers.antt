use Rattle.std.proofs.lemmas.List.{take_rest}
use Rattle.record_core.proofs.Plain.{listed_as}
use Rattle.record_core.specs.Cells.{stand_json}
use Rattle.record_core.proofs.object.add_stands.Goals as goal

pub returns-in-len1-up : goal.returns-in-len1-up
returns-in-len1-up g c =
    listed_as stand_json c.args.stands.now _ c.args.out.now c.add_first_stand.new.out c.add_other_stands.new.out c.in-len1-up.len_at_least c.add_first_stand.ensures (rw take_rest at c.add_other_stands.ensures)
