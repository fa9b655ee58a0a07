use Rattle.text_core.proofs.Adding as Adding
use Rattle.text_core.proofs.laws.lent_sinks_come_back.Goals as goal

pub returns : goal.returns
returns g c = Adding.text_ended
