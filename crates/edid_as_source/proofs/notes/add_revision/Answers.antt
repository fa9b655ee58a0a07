use Rattle.std.proofs.Common.{subst}
use Rattle.text_core.specs.Adds.{Adds}
use Rattle.edid_as_source.specs.Notes.{revision_by}
use Rattle.edid_as_source.proofs.notes.add_revision.Goals as goal

pub returns : goal.returns
returns g c = subst (λ r. Adds c.args.out.now c.add_revision_by.new.out (revision_by r)) c.byte_at-revision.ensures c.add_revision_by.ensures
