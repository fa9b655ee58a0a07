use Rattle.std.proofs.lemmas.List.{take_rest}
use Rattle.std.proofs.Common.{codes, ◌++◌}
use Rattle.text_core.proofs.Adding.{then}
use Rattle.record_core.specs.Cells.{stand_json}
use Rattle.record_core.specs.declared.cell.Stand.{Stand}
use Rattle.record_core.proofs.Plain.{first}
use Rattle.record_core.proofs.object.+add_more_stands.Goals as goal

pub returns-in-len1-up : goal.returns-in-len1-up
returns-in-len1-up g t c =
    first (λ (y : Stand). codes "," ++ stand_json y) c.args.stands.now _ _ _ _ c.in-len1-up.len_at_least (then _ _ _ _ _ c.add.ensures c.add_stand.ensures) (rw take_rest at c.add_more_stands.ensures)
