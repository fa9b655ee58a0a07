use Rattle.meaning_displayid.proofs.Joins.{joined}
use Rattle.meaning_displayid.specs.Sections.{all_data, displayid_lines, head_lines}
use Rattle.meaning_displayid.proofs.sections.append_displayid.Goals as goal

pub returns : goal.returns
unfolding displayid_lines
returns c =
    let p = c.args.bytes.now in
    joined _ _ _ (head_lines p) (all_data p) c.append_head.ensures.items c.append_all_data.ensures
