use Rattle.capture_verdict.specs.Lists.{first_some}
use Rattle.capture_verdict.specs.Verdicts.{fine_of, hums, mains}
use Rattle.capture_verdict.proofs.Choosing.{comes_first, goes_on}
use Rattle.capture_verdict.proofs.lines.fine_or_hum.Goals as goal

pub returns-in-None : goal.returns-in-None
returns-in-None c = goes_on (fine_of c.args.capture.now) c.fine_of.result (first_some (hums c.args.capture.now mains)) c.hum_first.result c.fine_of.ensures c.in-None.is c.hum_first.ensures

pub returns-in-Some : goal.returns-in-Some
returns-in-Some c = comes_first (fine_of c.args.capture.now) c.fine_of.result (first_some (hums c.args.capture.now mains)) c.in-Some.verdict c.fine_of.ensures c.in-Some.is
