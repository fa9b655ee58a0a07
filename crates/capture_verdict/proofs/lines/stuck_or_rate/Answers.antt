use Rattle.capture_verdict.specs.Verdicts.{rate_of, stuck_of}
use Rattle.capture_verdict.proofs.Choosing.{comes_first, goes_on}
use Rattle.capture_verdict.proofs.lines.stuck_or_rate.Goals as goal

pub returns-in-None : goal.returns-in-None
returns-in-None c = goes_on (stuck_of c.args.capture.now) c.stuck_of.result (rate_of c.args.capture.now) c.rate_of.result c.stuck_of.ensures c.in-None.is c.rate_of.ensures

pub returns-in-Some : goal.returns-in-Some
returns-in-Some c = comes_first (stuck_of c.args.capture.now) c.stuck_of.result (rate_of c.args.capture.now) c.in-Some.verdict c.stuck_of.ensures c.in-Some.is
