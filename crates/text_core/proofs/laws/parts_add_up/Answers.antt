use Rattle.text_core.proofs.Adding as Adding
use Rattle.text_core.proofs.laws.parts_add_up.Goals as goal

pub returns : goal.returns
returns g c = Adding.more
