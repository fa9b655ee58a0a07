use Rattle.edid_base.proofs.OneMaker.{one_maker}
use Rattle.edid_base.proofs.laws.one_spelling_of_makers.Goals as goal

pub returns : goal.returns
returns c = one_maker
