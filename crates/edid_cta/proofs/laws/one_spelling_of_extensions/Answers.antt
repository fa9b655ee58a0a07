use Rattle.edid_cta.proofs.OneExt.{one_ext}
use Rattle.edid_cta.proofs.laws.one_spelling_of_extensions.Goals as goal

pub returns : goal.returns
returns c = one_ext
