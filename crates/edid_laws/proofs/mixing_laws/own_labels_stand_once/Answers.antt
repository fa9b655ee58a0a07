use Rattle.edid_laws.proofs.Standing.{labels_stand_once}
use Rattle.edid_laws.proofs.mixing_laws.own_labels_stand_once.Goals as goal

pub returns : goal.returns
returns c = labels_stand_once
