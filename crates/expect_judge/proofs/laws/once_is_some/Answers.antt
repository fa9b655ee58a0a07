use Rattle.expect_judge.proofs.Often as lemmas
use Rattle.expect_judge.proofs.laws.once_is_some.Goals as goal

pub returns : goal.returns
returns c = lemmas.once_is_some
