use Rattle.std.proofs.Common.{sym, ◌∙◌}
use Rattle.edid_difference.specs.Parts.{rest_at}
use Rattle.edid_difference.proofs.Adding.{kind_never}
use Rattle.edid_difference.proofs.aligning.has_kind.Goals as goal

pub returns : goal.returns
returns c =
    sym (kind_never c.args.kind (rest_at c.args.base.now c.args.extensions.now c.loop-part.place) c.in_default.ensures.first) ∙ c.loop-part.invariant.same
