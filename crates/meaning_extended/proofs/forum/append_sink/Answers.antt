use Rattle.std.proofs.Common.{drop}
use Rattle.meaning_words.proofs.Joins.{joined}
use Rattle.meaning_extended.specs.Forum.{forum_meanings, spare_meanings}
use Rattle.meaning_extended.proofs.forum.append_sink.Goals as goal

pub returns : goal.returns
returns c =
    let p = c.args.payload.now in
    joined _ _ _ (spare_meanings p) (forum_meanings (drop 2 p)) c.append_spare.ensures.items c.append_after_spare.ensures
