use Rattle.std.proofs.Common.{drop}
use Rattle.meaning_cta.proofs.Joins.{joined}
use Rattle.meaning_cta.specs.Stereo.{structure_line, mask_meanings, entries}
use Rattle.meaning_cta.proofs.stereo.append_some.Goals as goal

pub returns-clause-items : goal.returns-clause-items
returns-clause-items c =
    let p = c.args.bytes.now in
    let svds = c.args.codes.now in
    joined _ _ _ (structure_line p) _ c.append_structure_line.ensures.items
    (joined _ _ _ (mask_meanings svds (drop 2 p)) (entries svds (drop 4 p)) c.append_mask_after.ensures.items c.append_entries_after.ensures.items)
