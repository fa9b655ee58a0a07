use Rattle.capture_smooth.proofs.Pairs.{smoothing}
use Rattle.capture_smooth.proofs.laws.smoothing_keeps_what_is_long.Goals as goal

pub returns : goal.returns
returns c = smoothing
