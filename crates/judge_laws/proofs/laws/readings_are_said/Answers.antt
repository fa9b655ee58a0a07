use Rattle.judge_laws.proofs.Said as lemmas
use Rattle.judge_laws.proofs.laws.readings_are_said.Goals as goal

pub returns : goal.returns
returns c = lemmas.readings_are_said
