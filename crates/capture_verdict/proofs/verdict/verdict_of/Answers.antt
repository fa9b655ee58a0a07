use Rattle.capture_verdict.proofs.Hinting.{hinted}
use Rattle.capture_verdict.proofs.verdict.verdict_of.Goals as goal

pub returns-clause-hint : goal.returns-clause-hint
returns-clause-hint c = hinted c.args.capture.now c.first_verdict.result c.first_verdict.ensures
