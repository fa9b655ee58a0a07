use Rattle.std.proofs.Common.{option_map}
use Rattle.line_reading.specs.Reports.{listed_as}
use Rattle.follow_core.proofs.Told.{tells_end}
use Rattle.follow_core.proofs.teller.Teller.end.Goals as goal

pub returns : goal.returns
returns c = tells_end c.args.self c.args.end (option_map listed_as c.finish.result) c.finish.ensures.by
