use Rattle.std.proofs.Common.{option_map}
use Rattle.line_reading.specs.Reports.{listed_as}
use Rattle.follow_core.proofs.Told.{tells_calm}
use Rattle.follow_core.proofs.teller.Teller.calm.Goals as goal

pub returns : goal.returns
returns c = tells_calm c.args.self.now _ c.args.from (option_map listed_as c.calm-2.result) c.requires.known c.requires.early c.max-until.ensures c.calm-2.ensures c.calm.ensures.finds c.calm.ensures.stays
