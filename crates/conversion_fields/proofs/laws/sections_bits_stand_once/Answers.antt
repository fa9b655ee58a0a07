use Rattle.conversion_fields.specs.Whole.{sections_of}
use Rattle.conversion_fields.proofs.laws.sections_bits_stand_once.Goals as goal

pub returns : goal.returns
unfolding sections_of
returns c = c.cut_bits_stand_once.ensures 0
