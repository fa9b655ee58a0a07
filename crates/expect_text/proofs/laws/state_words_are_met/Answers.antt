use Rattle.expect_text.proofs.Wording as lemmas
use Rattle.expect_text.proofs.laws.state_words_are_met.Goals as goal

pub returns : goal.returns
returns c = lemmas.state_words_are_met
