use Rattle.std.proofs.Common.{ap}
use Rattle.record_core.specs.Cells.{plain_of}
use Rattle.record_core.specs.Records.{as_text, word_text}
use Rattle.record_core.proofs.Plain.{adds_as, mapped}
use Rattle.record_core.proofs.line.add_cell_words.Goals as goal

pub returns : goal.returns
returns g c = adds_as c.args.out.now c.add_each_word.new.out _ _ (ap (as_text c.args.quoted) (mapped word_text plain_of c.args.cells.now)) c.add_each_word.ensures
