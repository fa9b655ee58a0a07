use Rattle.text_core.specs.Words.{words_of}
use Rattle.expect_text.specs.Form.{expect_said}
use Rattle.expect_text.proofs.Near.{near_said}
use Rattle.expect_text.proofs.form.expect_said.Goals as goal

pub returns-clause-form : goal.returns-clause-form
unfolding expect_said
returns-clause-form c = c.read_line.ensures

pub returns-clause-bounded : goal.returns-clause-bounded
unfolding expect_said
returns-clause-bounded c = near_said c.read_line.result (words_of c.args.line.now) c.read_line.ensures
