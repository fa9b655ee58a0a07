use Rattle.expect_told.proofs.OneTold as lemmas
use Rattle.expect_told.proofs.laws.texts_end_so.Goals as goal

pub returns : goal.returns
returns c = lemmas.texts_end_so c.one_outcome.ensures c.one_script.ensures
