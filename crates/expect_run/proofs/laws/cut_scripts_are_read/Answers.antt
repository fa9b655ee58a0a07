use Rattle.expect_run.proofs.Cuts as lemmas
use Rattle.expect_run.proofs.laws.cut_scripts_are_read.Goals as goal

pub returns : goal.returns
returns c = lemmas.cuts_are_read
