use Rattle.device_core.proofs.OnceLemmas as lemmas
use Rattle.device_core.proofs.laws.fates_keep_once.Goals as goal

pub returns : goal.returns
returns c = lemmas.fates_keep_once
