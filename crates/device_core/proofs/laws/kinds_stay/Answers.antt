use Rattle.device_core.proofs.NumberLemmas as lemmas
use Rattle.device_core.proofs.laws.kinds_stay.Goals as goal

pub returns : goal.returns
returns c = lemmas.kinds_stay
