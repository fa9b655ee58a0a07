use Rattle.capture_verdict.specs.Lists.{first_some}
use Rattle.capture_verdict.specs.Verdicts.{odd_of, remains}
use Rattle.capture_verdict.proofs.Choosing.{value_none, value_some}
use Rattle.capture_verdict.proofs.lines.remaining_or_odd.Goals as goal

pub returns-in-None : goal.returns-in-None
returns-in-None c = value_none (odd_of c.args.capture.now) c.odd_of.result c.remaining.result (first_some (remains c.args.capture.now)) c.remaining.ensures c.in-None.is c.odd_of.ensures

pub returns-in-Some : goal.returns-in-Some
returns-in-Some c = value_some (odd_of c.args.capture.now) c.in-Some.verdict c.remaining.result (first_some (remains c.args.capture.now)) c.remaining.ensures c.in-Some.is
