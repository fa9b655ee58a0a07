use Rattle.edid_dump.proofs.Offsets as lemmas
use Rattle.edid_dump.proofs.laws.offsets_are_read.Goals as goal

pub returns : goal.returns
returns c = lemmas.offsets_are_read
