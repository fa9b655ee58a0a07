use Rattle.std.proofs.Common.{◌∙◌}
use Rattle.capture_verdict.proofs.Reading.{smoothed_same}
use Rattle.capture_verdict.proofs.readings.count_smoothed.Goals as goal

pub returns : goal.returns
returns c = c.complete.ensures ∙ smoothed_same c.args._glitch c.args._capture.now c.args.other.now c.requires.edges c.requires.end
