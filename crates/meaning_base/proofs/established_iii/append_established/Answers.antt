use Rattle.meaning_base.proofs.Joins.{joined}
use Rattle.meaning_base.specs.EstablishedIii.{spare_lines, first_lines, second_lines}
use Rattle.meaning_base.proofs.established_iii.append_established.Goals as goal

pub returns : goal.returns
returns c =
    let p = c.args.bytes.now in
    joined _ _ _ (spare_lines p) _ c.append_spare.ensures.items
    (joined _ _ _ (first_lines p) (second_lines p) c.append_first.ensures.items c.append_second.ensures.items)
