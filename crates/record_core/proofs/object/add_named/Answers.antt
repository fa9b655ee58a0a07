use Rattle.text_core.proofs.Adding.{then}
use Rattle.record_core.proofs.object.add_named.Goals as goal

pub returns : goal.returns
returns g c = then _ _ _ _ _ c.add.ensures (then _ _ _ _ _ c.add_name.ensures c.add_value.ensures)
