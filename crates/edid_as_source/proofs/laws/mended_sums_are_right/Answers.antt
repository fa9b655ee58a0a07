use Rattle.edid_as_source.proofs.Mending.{others_stay, sums_are_right}
use Rattle.edid_as_source.proofs.laws.mended_sums_are_right.Goals as goal

pub returns-clause-sums : goal.returns-clause-sums
returns-clause-sums c = sums_are_right

pub returns-clause-others : goal.returns-clause-others
returns-clause-others c = others_stay
