use Rattle.capture_advice.specs.Counts.{complete_at}
use Rattle.capture_advice.proofs.Counting.{more_counted}
use Rattle.capture_advice.proofs.widening.better.Goals as goal

pub returns-then-is_better : goal.returns-then-is_better
returns-then-is_better c =
    more_counted c.complete_by-count.result c.args.plain (complete_at 0 c.args.capture.now) (complete_at c.at_most-margin.result c.args.capture.now) c.more_than.result
    c.complete_by-count.ensures.within c.requires.within c.complete_by-count.ensures.counted c.requires.plain c.more_than.ensures
