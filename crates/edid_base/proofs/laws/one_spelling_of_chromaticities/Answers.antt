use Rattle.edid_base.proofs.OneStandard.{one_chroma}
use Rattle.edid_base.proofs.laws.one_spelling_of_chromaticities.Goals as goal

pub returns : goal.returns
returns c = one_chroma
