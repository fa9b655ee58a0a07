use Rattle.device_core.proofs.SentLemmas as lemmas
use Rattle.device_core.proofs.laws.frames_end.Goals as goal

pub returns : goal.returns
returns c = lemmas.frames_end
