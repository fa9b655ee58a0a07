use Rattle.capture_signs.proofs.Lawful.{lawful_same}
use Rattle.capture_signs.proofs.laws.lawful_frames_are_in_order.Goals as goal

pub returns : goal.returns
returns c = lawful_same
