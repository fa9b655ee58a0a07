use Rattle.capture_advice.specs.Counts.{complete_at}
use Rattle.capture_advice.proofs.Counting.{none_more}
use Rattle.capture_advice.proofs.widening.none.Goals as goal

pub returns : goal.returns
returns c = none_more (complete_at 0 c.args._capture.now)
