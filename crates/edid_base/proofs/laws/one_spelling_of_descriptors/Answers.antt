use Rattle.edid_base.proofs.OneDescriptor.{one_descriptor}
use Rattle.edid_base.proofs.laws.one_spelling_of_descriptors.Goals as goal

pub returns : goal.returns
returns c = one_descriptor
