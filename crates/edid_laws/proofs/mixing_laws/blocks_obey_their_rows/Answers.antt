use Rattle.edid_laws.proofs.Whole.{obey}
use Rattle.edid_laws.proofs.mixing_laws.blocks_obey_their_rows.Goals as goal

pub returns : goal.returns
returns c = obey
