use Rattle.expect_told.proofs.OneTold as lemmas
use Rattle.expect_told.proofs.laws.texts_have_one_told.Goals as goal

pub returns : goal.returns
returns c = lemmas.texts_have_one_told c.texts_end_so.ensures
