use Rattle.text_core.proofs.Adding.{then}
use Rattle.conversion_fields.proofs.whole.add_edid.Goals as goal

pub returns : goal.returns
returns g c = then _ _ _ _ _ c.add_base.ensures c.add_exts.ensures
