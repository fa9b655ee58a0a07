use Rattle.device_core.proofs.KeptLemmas.{keeps_clean}
use Rattle.device_core.proofs.laws.queues_go_elsewhere.Goals as goal

pub returns : goal.returns
returns c = keeps_clean
