use Rattle.device_core.proofs.OutsideLemmas as lemmas
use Rattle.device_core.proofs.laws.only_outside.Goals as goal

pub returns : goal.returns
returns c = lemmas.only_outside
