use Rattle.judge_laws.proofs.Files as lemmas
use Rattle.judge_laws.proofs.laws.files_are_judged_alike.Goals as goal

pub returns : goal.returns
returns c = lemmas.files_are_judged_alike
