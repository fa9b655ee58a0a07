use Rattle.std.proofs.Common.{◌∷◌}
use Rattle.capture_verdict.specs.Lists.{first_some}
use Rattle.capture_verdict.specs.Verdicts.{fine_of, hums, mains, silent_of}
use Rattle.capture_verdict.proofs.Choosing.{comes_first, goes_on}
use Rattle.capture_verdict.proofs.lines.plain_verdict.Goals as goal

pub returns-in-None : goal.returns-in-None
returns-in-None c = goes_on (silent_of c.args.capture.now) c.silent_of.result (first_some (fine_of c.args.capture.now ∷ hums c.args.capture.now mains)) c.fine_or_hum.result c.silent_of.ensures c.in-None.is c.fine_or_hum.ensures

pub returns-in-Some : goal.returns-in-Some
returns-in-Some c = comes_first (silent_of c.args.capture.now) c.silent_of.result (first_some (fine_of c.args.capture.now ∷ hums c.args.capture.now mains)) c.in-Some.verdict c.silent_of.ensures c.in-Some.is
