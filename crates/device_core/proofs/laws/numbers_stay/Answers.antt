use Rattle.device_core.proofs.NumberLemmas as lemmas
use Rattle.device_core.proofs.laws.numbers_stay.Goals as goal

pub returns : goal.returns
returns c = lemmas.numbers_stay
