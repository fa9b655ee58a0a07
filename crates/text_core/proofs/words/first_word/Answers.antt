use Rattle.std.proofs.Common.{sym, ◌==◌}
use Rattle.text_core.proofs.LineLemmas.{split_none, split_some}
use Rattle.text_core.proofs.words.first_word.Goals as goal

pub returns-in-None : goal.returns-in-None
returns-in-None c = split_none (λ b. b == 32) c.args.line.now (sym c.in-None.ensures)

pub returns-in-Some : goal.returns-in-Some
returns-in-Some c = split_some (λ b. b == 32) c.args.line.now c.in-Some.end (sym c.in-Some.ensures)
