use Rattle.edid_as_source.proofs.Strict.{taken_strictly}
use Rattle.edid_as_source.proofs.laws.mended_bytes_are_taken.Goals as goal

pub returns : goal.returns
returns c = taken_strictly
