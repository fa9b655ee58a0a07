use Rattle.expect_remarks.proofs.Shown as lemmas
use Rattle.expect_remarks.proofs.laws.what_is_shown_was_met.Goals as goal

pub returns : goal.returns
returns c = lemmas.what_is_shown_was_met
