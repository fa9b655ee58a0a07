use Rattle.edid_base.proofs.OneStandard.{one_standard}
use Rattle.edid_base.proofs.laws.one_spelling_of_standards.Goals as goal

pub returns : goal.returns
returns c = one_standard
