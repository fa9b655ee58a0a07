use Rattle.std.proofs.lemmas.List.{take_rest}
use Rattle.record_core.specs.Cells.{stand_text}
use Rattle.record_core.proofs.Plain.{first_as}
use Rattle.record_core.proofs.line.+add_stands.Goals as goal

pub returns-in-len1-up : goal.returns-in-len1-up
returns-in-len1-up g t c =
    first_as c.args.quoted stand_text c.args.stands.now _ _ _ _ c.in-len1-up.len_at_least c.add_stand.ensures (rw take_rest at c.add_stands.ensures)
