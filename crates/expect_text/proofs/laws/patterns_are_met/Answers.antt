use Rattle.expect_text.proofs.Patterns as lemmas
use Rattle.expect_text.proofs.laws.patterns_are_met.Goals as goal

pub returns : goal.returns
returns c = lemmas.patterns_are_met
