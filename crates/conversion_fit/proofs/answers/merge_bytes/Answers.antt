use Rattle.std.proofs.Common.{sym}
use Rattle.conversion_fit.proofs.answers.merge_bytes.Goals as goal

pub returns-in-Ok-merge-clause-merged : goal.returns-in-Ok-merge-clause-merged
returns-in-Ok-merge-clause-merged c =
    (c.in-Ok.edid, c.in-Ok-one_edid.edid, c.in-Ok-merge.merged, c.passed.result, c.in-Ok.ensures.found, c.in-Ok-one_edid.ensures.found, c.in-Ok-merge.ensures.merged, c.passed.ensures, sym c.edid_to_bytes.ensures)
