use Rattle.std.proofs.lemmas.List.{take_rest}
use Rattle.record_core.specs.Cells.{plain_of}
use Rattle.record_core.specs.Records.{word_text}
use Rattle.record_core.specs.declared.cell.Cell.{Cell}
use Rattle.record_core.proofs.Plain.{first_as}
use Rattle.record_core.proofs.line.+add_each_word.Goals as goal

pub returns-in-len1-up : goal.returns-in-len1-up
returns-in-len1-up g t c =
    first_as c.args.quoted (λ (y : Cell). word_text (plain_of y)) c.args.cells.now _ _ _ _ c.in-len1-up.len_at_least c.add_word.ensures (rw take_rest at c.add_each_word.ensures)
