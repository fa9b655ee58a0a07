use Rattle.capture_verdict.specs.Verdicts.{after_readings, other_readings}
use Rattle.capture_verdict.proofs.Choosing.{found_of, passed_of}
use Rattle.capture_verdict.proofs.verdict.unsteady_by.Goals as goal

pub returns-in-None : goal.returns-in-None
returns-in-None c =
    passed_of c.args.capture.now (other_readings c.args.capture.now) (after_readings c.args.capture.now) c.args.other c.caused_verdict.result c.requires c.in-None.is c.caused_verdict.ensures

pub returns-in-Some : goal.returns-in-Some
returns-in-Some c = found_of c.args.capture.now (other_readings c.args.capture.now) (after_readings c.args.capture.now) c.args.other c.in-Some.verdict c.requires c.in-Some.is
