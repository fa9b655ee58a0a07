use Rattle.capture_verdict.specs.Verdicts.{after_causes, causes}
use Rattle.capture_verdict.proofs.Choosing.{found_of, passed_of}
use Rattle.capture_verdict.proofs.verdict.caused_verdict.Goals as goal

pub returns-in-None : goal.returns-in-None
returns-in-None c = passed_of c.args.capture.now (causes c.args.capture.now) (after_causes c.args.capture.now) c.cause_of.result c.last_verdict.result c.cause_of.ensures c.in-None.is c.last_verdict.ensures

pub returns-in-Some : goal.returns-in-Some
returns-in-Some c = found_of c.args.capture.now (causes c.args.capture.now) (after_causes c.args.capture.now) c.cause_of.result c.in-Some.verdict c.cause_of.ensures c.in-Some.is
