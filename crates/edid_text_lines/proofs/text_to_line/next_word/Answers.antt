use Rattle.std.proofs.Common.{sym}
use Rattle.edid_text_lines.proofs.Words.{next_none, next_some}
use Rattle.edid_text_lines.proofs.text_to_line.next_word.Goals as goal

pub returns-in-None : goal.returns-in-None
returns-in-None c = λ w t h b e. next_none w t c.args.text.now h b e (sym c.in-None.ensures)

pub returns-in-Some : goal.returns-in-Some
returns-in-Some c = λ w t h b e. next_some w t c.args.text.now c.in-Some.end h b e (sym c.in-Some.ensures)
