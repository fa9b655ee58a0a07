use Rattle.edid_laws.proofs.Owned.{own_once}
use Rattle.edid_laws.proofs.mixing_laws.own_blocks_stand_once.Goals as goal

pub returns : goal.returns
returns c = own_once
