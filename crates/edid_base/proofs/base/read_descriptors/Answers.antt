use Rattle.std.proofs.Common.{◌∙◌}
use Rattle.edid_base.proofs.PartLemmas.{quarters}
use Rattle.edid_base.proofs.base.read_descriptors.Goals as goal

pub returns : goal.returns
returns c =
    quarters c.args.bytes.now _ _ _ _ c.told-bytes (c.read.ensures ∙ c.part.ensures) (c.read-2.ensures ∙ c.part-2.ensures)
    (c.read-3.ensures ∙ c.part-3.ensures) (c.read-4.ensures ∙ c.part-4.ensures)
