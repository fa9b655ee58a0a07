use Rattle.std.proofs.Common.{map}
use Rattle.expect_judge.specs.Told.{kept_as}
use Rattle.audit_expect.specs.Heard.{none_kept}
use Rattle.audit_expect.proofs.readings.ReadingsLineHearer.group.Goals as goal

pub returns : goal.returns
returns c = none_kept c.args.self.now.form (map kept_as c.args.self.now.rounds.items) c.args.self.now.full
