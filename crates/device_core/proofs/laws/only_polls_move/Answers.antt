use Rattle.device_core.proofs.CleanLemmas.{keeps_place}
use Rattle.device_core.proofs.laws.only_polls_move.Goals as goal

pub returns : goal.returns
returns c = keeps_place
