use Rattle.capture_scale.proofs.Stretched.{scaling}
use Rattle.capture_scale.proofs.laws.scaling_keeps_captures.Goals as goal

pub returns : goal.returns
returns c = scaling
