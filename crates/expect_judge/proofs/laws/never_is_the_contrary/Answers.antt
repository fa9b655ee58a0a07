use Rattle.expect_judge.proofs.Often as lemmas
use Rattle.expect_judge.proofs.laws.never_is_the_contrary.Goals as goal

pub returns : goal.returns
returns c = lemmas.never_is_the_contrary
