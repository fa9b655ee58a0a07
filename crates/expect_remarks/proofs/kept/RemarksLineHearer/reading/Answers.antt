use Rattle.expect_remarks.specs.Kept.{none_kept}
use Rattle.expect_remarks.proofs.kept.RemarksLineHearer.reading.Goals as goal

pub returns : goal.returns
returns c = none_kept c.args.self.now.notes.items c.args.self.now.full
