use Rattle.room_run.proofs.Causality as Causality
use Rattle.room_run.proofs.laws.traces_are_causal.Goals as goal

pub returns : goal.returns
returns c = Causality.traces_are_causal
