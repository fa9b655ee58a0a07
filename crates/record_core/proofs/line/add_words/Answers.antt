use Rattle.std.proofs.Common.{ap, map, sym}
use Rattle.std.proofs.lemmas.Grind.{flat_map-append}
use Rattle.record_core.specs.Cells.{plain_of}
use Rattle.record_core.specs.Records.{as_text, said, word_text}
use Rattle.record_core.proofs.Plain.{adds_as, then_as}
use Rattle.record_core.proofs.line.add_words.Goals as goal

pub returns : goal.returns
returns g c =
    let xs = map plain_of c.args.cells.now in
    let ys = map plain_of c.args.more.now in
    adds_as c.args.out.now c.add_cell_words-2.new.out _ _ (ap (as_text c.args.quoted) (sym (flat_map-append word_text xs ys)))
    (then_as c.args.quoted _ _ _ (said xs) (said ys) c.add_cell_words.ensures c.add_cell_words-2.ensures)
