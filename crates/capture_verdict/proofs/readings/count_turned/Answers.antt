use Rattle.std.proofs.Common.{◌∙◌}
use Rattle.capture_verdict.proofs.Reading.{turned_same}
use Rattle.capture_verdict.proofs.readings.count_turned.Goals as goal

pub returns : goal.returns
returns c = c.complete.ensures ∙ turned_same c.args._capture.now c.args.other.now c.requires.edges c.requires.end
