use Rattle.meaning_words.proofs.Joins.{joined}
use Rattle.meaning_extended.specs.Videos.{mapped_meanings, unmapped_meanings}
use Rattle.meaning_extended.proofs.videos.append_some.Goals as goal

pub returns : goal.returns
returns c =
    let p = c.args.payload.now in
    joined _ _ _ (mapped_meanings c.args.codes.now p) (unmapped_meanings p) c.append_mapped.ensures.items c.append_unmapped.ensures
