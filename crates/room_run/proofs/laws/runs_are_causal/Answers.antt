use Rattle.room_run.proofs.Causality as Causality
use Rattle.room_run.proofs.laws.runs_are_causal.Goals as goal

pub returns : goal.returns
returns c = Causality.runs_are_causal
