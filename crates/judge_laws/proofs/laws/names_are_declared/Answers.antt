use Rattle.judge_laws.proofs.Declared as lemmas
use Rattle.judge_laws.proofs.laws.names_are_declared.Goals as goal

pub returns : goal.returns
returns c = lemmas.names_are_declared
