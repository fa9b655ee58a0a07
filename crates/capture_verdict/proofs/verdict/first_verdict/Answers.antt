use Rattle.capture_verdict.specs.Verdicts.{after_plain, plain_verdicts}
use Rattle.capture_verdict.proofs.Choosing.{found_of, passed_ok}
use Rattle.capture_verdict.proofs.verdict.first_verdict.Goals as goal

pub returns-in-None : goal.returns-in-None
returns-in-None c =
    passed_ok c.args.capture.now (plain_verdicts c.args.capture.now) (after_plain c.args.capture.now) c.plain_verdict.result c.unsteady_verdict.result c.plain_verdict.ensures c.in-None.is
    c.unsteady_verdict.ensures

pub returns-in-Some : goal.returns-in-Some
returns-in-Some c =
    found_of c.args.capture.now (plain_verdicts c.args.capture.now) (after_plain c.args.capture.now) c.plain_verdict.result c.in-Some.verdict c.plain_verdict.ensures c.in-Some.is
