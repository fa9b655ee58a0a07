use Rattle.capture_advice.specs.Counts.{complete_at}
use Rattle.capture_verdict.specs.Verdicts.{complete}
use Rattle.capture_verdict.proofs.Choosing.{capped_is}
use Rattle.capture_verdict.proofs.counts.complete.Goals as goal

pub returns : goal.returns
unfolding complete
returns c = capped_is c.complete_by.result (complete_at 0 c.args.capture.now) c.complete_by.ensures.counted c.complete_by.ensures.within
