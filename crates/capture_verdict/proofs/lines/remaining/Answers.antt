use Rattle.std.proofs.Common.{◌∷◌, [], ◌∙◌}
use Rattle.capture_verdict.specs.Lists.{first_some}
use Rattle.capture_verdict.specs.Verdicts.{bus_of, clock_of, short_of}
use Rattle.capture_verdict.proofs.Choosing.{comes_first, goes_on, last_two}
use Rattle.capture_verdict.proofs.lines.remaining.Goals as goal

pub returns-in-None : goal.returns-in-None
returns-in-None c = goes_on (clock_of c.args.capture.now) c.clock_of.result (first_some (bus_of c.args.capture.now ∷ short_of c.args.capture.now ∷ [])) c.bus_or_short.result c.clock_of.ensures c.in-None.is (c.bus_or_short.ensures ∙ last_two (bus_of c.args.capture.now) (short_of c.args.capture.now))

pub returns-in-Some : goal.returns-in-Some
returns-in-Some c = comes_first (clock_of c.args.capture.now) c.clock_of.result (first_some (bus_of c.args.capture.now ∷ short_of c.args.capture.now ∷ [])) c.in-Some.verdict c.clock_of.ensures c.in-Some.is
