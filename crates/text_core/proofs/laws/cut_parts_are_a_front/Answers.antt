use Rattle.text_core.proofs.CutShort as CutShort
use Rattle.text_core.proofs.laws.cut_parts_are_a_front.Goals as goal

pub returns : goal.returns
returns g c = CutShort.cut_short
