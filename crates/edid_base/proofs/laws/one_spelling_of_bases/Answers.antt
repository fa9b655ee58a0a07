use Rattle.edid_base.proofs.OneBase.{one_base}
use Rattle.edid_base.proofs.laws.one_spelling_of_bases.Goals as goal

pub returns : goal.returns
returns c = one_base
