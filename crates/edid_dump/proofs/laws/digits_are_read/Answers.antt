use Rattle.edid_dump.proofs.Printing as lemmas
use Rattle.edid_dump.proofs.laws.digits_are_read.Goals as goal

pub returns : goal.returns
returns c = lemmas.digits_are_read
