use Rattle.device_core.proofs.ListedLemmas as lemmas
use Rattle.device_core.proofs.laws.addresses_are_listed.Goals as goal

pub returns : goal.returns
returns c = lemmas.holds_listed
