use Rattle.std.proofs.Common.{◌∷◌, [], ◌∙◌}
use Rattle.capture_verdict.specs.Lists.{first_some}
use Rattle.capture_verdict.specs.Verdicts.{rate_of, stuck_of, unit_of}
use Rattle.capture_verdict.proofs.Choosing.{comes_first, goes_on, last_two}
use Rattle.capture_verdict.proofs.lines.cause_of.Goals as goal

pub returns-in-None : goal.returns-in-None
returns-in-None c = goes_on (unit_of c.args.capture.now) c.unit_of.result (first_some (stuck_of c.args.capture.now ∷ rate_of c.args.capture.now ∷ [])) c.stuck_or_rate.result c.unit_of.ensures c.in-None.is (c.stuck_or_rate.ensures ∙ last_two (stuck_of c.args.capture.now) (rate_of c.args.capture.now))

pub returns-in-Some : goal.returns-in-Some
returns-in-Some c = comes_first (unit_of c.args.capture.now) c.unit_of.result (first_some (stuck_of c.args.capture.now ∷ rate_of c.args.capture.now ∷ [])) c.in-Some.verdict c.unit_of.ensures c.in-Some.is
