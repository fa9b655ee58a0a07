use Rattle.std.proofs.Common.{sym}
use Rattle.edid_dump.proofs.Wording.{word_first, word_last}
use Rattle.edid_dump.proofs.spelled.next_word.Goals as goal

pub returns-in-None-clause-words : goal.returns-in-None-clause-words
returns-in-None-clause-words c = word_last c.args.spelling c.args.text.now (sym c.in-None.ensures)

pub returns-in-Some-clause-words : goal.returns-in-Some-clause-words
returns-in-Some-clause-words c = word_first c.args.spelling c.args.text.now c.in-Some.end (sym c.in-Some.ensures)
