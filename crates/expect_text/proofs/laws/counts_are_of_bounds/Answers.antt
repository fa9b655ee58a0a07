use Rattle.expect_text.proofs.Counting as lemmas
use Rattle.expect_text.proofs.laws.counts_are_of_bounds.Goals as goal

pub returns : goal.returns
returns c = lemmas.counts_are_of_bounds
