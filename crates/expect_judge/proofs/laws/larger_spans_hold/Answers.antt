use Rattle.expect_judge.proofs.Often as lemmas
use Rattle.expect_judge.proofs.laws.larger_spans_hold.Goals as goal

pub returns : goal.returns
returns c = lemmas.larger_spans_hold
