use Rattle.expect_run.proofs.Checked as lemmas
use Rattle.expect_run.proofs.laws.tallies_count_verdicts.Goals as goal

pub returns : goal.returns
returns c = lemmas.tallies_count_verdicts c.texts_end_so.ensures c.texts_have_one_line.ensures
