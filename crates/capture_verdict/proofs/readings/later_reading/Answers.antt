use Rattle.capture_verdict.specs.Lists.{or_else}
use Rattle.capture_verdict.specs.Verdicts.{glitches_of, inverted_of}
use Rattle.std.proofs.Common.{None}
use Rattle.capture_verdict.proofs.Choosing.{comes_first}
use Rattle.capture_verdict.proofs.Reading.{later_ok}
use Rattle.capture_verdict.proofs.readings.later_reading.Goals as goal

pub returns-in-None : goal.returns-in-None
returns-in-None c = later_ok c.args.capture.now c.args.inverted c.glitches_of.result c.requires c.in-None.is c.glitches_of.ensures

pub returns-in-Some : goal.returns-in-Some
returns-in-Some c =
    comes_first (inverted_of c.args.capture.now) c.args.inverted (or_else (glitches_of c.args.capture.now) None) c.in-Some.verdict c.requires c.in-Some.is
