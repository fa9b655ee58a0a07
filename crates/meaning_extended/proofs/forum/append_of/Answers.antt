use Rattle.meaning_words.proofs.Joins.{joined}
use Rattle.meaning_extended.specs.Forum.{lines_of, link_meanings, picture_meanings, compression_meanings}
use Rattle.meaning_extended.proofs.forum.append_of.Goals as goal

pub returns : goal.returns
unfolding lines_of
returns c =
    let b = c.args.block in
    joined _ _ _ (link_meanings b) _ c.append_link.ensures.items
    (joined _ _ _ (picture_meanings b) (compression_meanings c.args.payload.now) c.append_pictures.ensures.items c.append_compression.ensures)
