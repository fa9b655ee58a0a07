use Rattle.judge_laws.proofs.Agree as lemmas
use Rattle.judge_laws.proofs.laws.states_are_of_runs.Goals as goal

pub returns : goal.returns
returns c = lemmas.states_are_of_runs
