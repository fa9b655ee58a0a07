use Rattle.std.proofs.Common.{drop}
use Rattle.meaning_cta.proofs.Joins.{joined}
use Rattle.meaning_cta.specs.Stereo.{structure_line, entries}
use Rattle.meaning_cta.proofs.stereo.append_first.Goals as goal

pub returns-clause-items : goal.returns-clause-items
returns-clause-items c =
    let p = c.args.bytes.now in
    joined _ _ _ (structure_line p) (entries c.args.codes.now (drop 2 p)) c.append_structure_line.ensures.items c.append_entries_after.ensures.items
