use Rattle.std.proofs.Common.{sym}
use Rattle.text_core.proofs.LineLemmas.{split_none, split_some}
use Rattle.capture_core.proofs.reading.first_word.Goals as goal

pub returns-in-None-clause-words : goal.returns-in-None-clause-words
returns-in-None-clause-words g c = split_none g.R.TakesWords.form.is_gap c.args.line.now (sym c.in-None.ensures)

pub returns-in-Some-clause-words : goal.returns-in-Some-clause-words
returns-in-Some-clause-words g c = split_some g.R.TakesWords.form.is_gap c.args.line.now c.in-Some.end (sym c.in-Some.ensures)
