use Rattle.std.proofs.lemmas.List.{take_rest}
use Rattle.std.proofs.Common.{codes, ◌++◌}
use Rattle.text_core.proofs.Adding.{then}
use Rattle.record_core.specs.Cells.{item_json}
use Rattle.text_core.specs.declared.piece.Piece.{Piece}
use Rattle.record_core.proofs.Plain.{first}
use Rattle.record_core.proofs.object.+add_more.Goals as goal

pub returns-in-len1-up : goal.returns-in-len1-up
returns-in-len1-up g t c =
    first (λ (y : Piece). codes "," ++ item_json y) c.args.pieces.now _ _ _ _ c.in-len1-up.len_at_least (then _ _ _ _ _ c.add.ensures c.add_item.ensures) (rw take_rest at c.add_more.ensures)
