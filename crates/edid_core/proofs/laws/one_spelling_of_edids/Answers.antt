use Rattle.edid_core.proofs.OneEdid.{one_edid}
use Rattle.edid_core.proofs.laws.one_spelling_of_edids.Goals as goal

pub returns : goal.returns
returns c = one_edid
