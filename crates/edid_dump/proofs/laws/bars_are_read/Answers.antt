use Rattle.edid_dump.proofs.Bars as lemmas
use Rattle.edid_dump.proofs.laws.bars_are_read.Goals as goal

pub returns : goal.returns
returns c = lemmas.bars_are_read
