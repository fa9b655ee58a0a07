use Rattle.device_core.proofs.NumberLemmas as lemmas
use Rattle.device_core.proofs.laws.joining_holds_nothing.Goals as goal

pub returns : goal.returns
returns c = lemmas.joining_holds_nothing
