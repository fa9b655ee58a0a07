use Rattle.edid_dump.proofs.Printing as lemmas
use Rattle.edid_dump.proofs.laws.pairs_are_read.Goals as goal

pub returns : goal.returns
returns c = lemmas.pairs_are_read
