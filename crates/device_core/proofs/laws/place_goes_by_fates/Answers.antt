use Rattle.device_core.proofs.PlaceLemmas as lemmas
use Rattle.device_core.proofs.laws.place_goes_by_fates.Goals as goal

pub returns : goal.returns
returns c = lemmas.place_goes_by_fates
