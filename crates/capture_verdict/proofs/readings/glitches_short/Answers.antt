use Rattle.capture_verdict.proofs.Reading.{short_is}
use Rattle.capture_verdict.proofs.readings.glitches_short.Goals as goal

pub returns : goal.returns
returns c =
    short_is c.args.capture.now c.args.count c.glitch_of-glitch.result c.complete.result c.in_ok-other.other c.glitches_by.result c.glitch_of-glitch.ensures c.complete.ensures
    c.in_ok-other.ensures c.glitches_by.ensures
