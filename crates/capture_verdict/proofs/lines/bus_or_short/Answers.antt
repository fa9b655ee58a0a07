use Rattle.capture_verdict.specs.Verdicts.{bus_of, short_of}
use Rattle.capture_verdict.proofs.Choosing.{comes_first, goes_on}
use Rattle.capture_verdict.proofs.lines.bus_or_short.Goals as goal

pub returns-in-None : goal.returns-in-None
returns-in-None c = goes_on (bus_of c.args.capture.now) c.bus_of.result (short_of c.args.capture.now) c.short_of.result c.bus_of.ensures c.in-None.is c.short_of.ensures

pub returns-in-Some : goal.returns-in-Some
returns-in-Some c = comes_first (bus_of c.args.capture.now) c.bus_of.result (short_of c.args.capture.now) c.in-Some.verdict c.bus_of.ensures c.in-Some.is
