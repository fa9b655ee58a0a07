use Rattle.capture_invert.proofs.Turned.{inverting}
use Rattle.capture_invert.proofs.laws.inverting_turns_each_level.Goals as goal

pub returns : goal.returns
returns c = inverting
