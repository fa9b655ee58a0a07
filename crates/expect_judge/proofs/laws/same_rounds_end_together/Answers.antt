use Rattle.expect_judge.proofs.Ordered as lemmas
use Rattle.expect_judge.proofs.laws.same_rounds_end_together.Goals as goal

pub returns : goal.returns
returns c = lemmas.same_ends
