use Rattle.meaning_words.proofs.Joins.{joined}
use Rattle.meaning_words.specs.Notes.{below}
use Rattle.meaning_extended.specs.Dolby.{one_more, one_words}
use Rattle.meaning_extended.proofs.dolby.append_one.Goals as goal

pub returns : goal.returns
returns c = let p = c.args.payload.now in joined _ _ _ (below (one_words p)) (one_more p) c.append_one_words.ensures.items c.append_one_more.ensures
