use Rattle.edid_laws.proofs.Itself.{to_itself}
use Rattle.edid_laws.proofs.mixing_laws.merges_to_itself.Goals as goal

pub returns : goal.returns
returns c = to_itself
