use Rattle.meaning_words.proofs.Joins.{joined}
use Rattle.meaning_extended.specs.Blocks.{tagged_meanings}
use Rattle.meaning_extended.specs.Titles.{title_lines}
use Rattle.meaning_extended.proofs.blocks.append_titled.Goals as goal

pub returns : goal.returns
returns c =
    let tag = c.args.tag in
    joined _ _ _ (title_lines tag) (tagged_meanings c.args.codes.now tag c.args.payload.now) c.append_title.ensures.items c.append_tagged.ensures
