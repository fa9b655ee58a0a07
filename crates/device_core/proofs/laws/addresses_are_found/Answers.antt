use Rattle.device_core.proofs.OnceLemmas as lemmas
use Rattle.device_core.proofs.laws.addresses_are_found.Goals as goal

pub returns : goal.returns
returns c = lemmas.addresses_are_found
