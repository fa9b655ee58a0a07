use Rattle.text_core.proofs.Adding.{then}
use Rattle.record_core.proofs.object.add_first_stand.Goals as goal

pub returns : goal.returns
returns g c = then _ _ _ _ _ c.add.ensures c.add_stand.ensures
