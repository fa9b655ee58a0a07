use Rattle.std.proofs.Common.{rules, sym, ◌<◌, length}
use Rattle.text_core.proofs.LineLemmas.{lines_none, lines_some}
use Rattle.text_core.proofs.lines.first_line.Goals as goal

pub returns-in-None-clause-lines : goal.returns-in-None-clause-lines
returns-in-None-clause-lines c = let some : 0 < length c.args.text.now = search rules in lines_none c.args.text.now some (sym c.in-None.ensures)

pub returns-in-Some-clause-lines : goal.returns-in-Some-clause-lines
returns-in-Some-clause-lines c = lines_some c.args.text.now c.in-Some.end (sym c.in-Some.ensures)
