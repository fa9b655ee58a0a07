use Rattle.expect_text.proofs.Naming as lemmas
use Rattle.expect_text.proofs.laws.names_are_met.Goals as goal

pub returns : goal.returns
returns c = lemmas.names_are_met
