use Rattle.capture_verdict.proofs.Choosing.{nearly_found, nearly_passed}
use Rattle.capture_verdict.proofs.lines.last_verdict.Goals as goal

pub returns-in-None : goal.returns-in-None
returns-in-None c =
    nearly_passed c.args.capture.now c.widening_of-widening.result c.nearly_of.result c.remaining_or_odd.result c.widening_of-widening.ensures.counted c.nearly_of.ensures c.in-None.is c.remaining_or_odd.ensures

pub returns-in-Some : goal.returns-in-Some
returns-in-Some c =
    nearly_found c.args.capture.now c.widening_of-widening.result c.nearly_of.result c.in-Some.verdict c.widening_of-widening.ensures.counted c.nearly_of.ensures c.in-Some.is
