use Rattle.std.proofs.Common.{[]}
use Rattle.meaning_words.proofs.Joins.{joined}
use Rattle.meaning_words.specs.Notes.{below}
use Rattle.meaning_fields.specs.Fields.{block_meanings}
use Rattle.meaning_extended.specs.Dolby.{point_rows, two_words}
use Rattle.meaning_extended.proofs.dolby.append_two.Goals as goal

pub returns : goal.returns
returns c =
    let p = c.args.payload.now in
    joined _ _ _ (below (two_words p)) (block_meanings [] point_rows 7 p) c.append_two_words.ensures.items c.append_block.ensures.items
