use Rattle.text_core.proofs.Adding.{then}
use Rattle.record_core.proofs.object.add_named_position.Goals as goal

pub returns : goal.returns
returns g c = then _ _ _ _ _ c.add.ensures (then _ _ _ _ _ c.add_quoted.ensures c.add-2.ensures)
