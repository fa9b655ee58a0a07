use Rattle.std.proofs.Common.{◌∙◌}
use Rattle.expect_remarks.proofs.Shown.{without_last}
use Rattle.expect_remarks.proofs.met.said_in.Goals as goal

pub returns : goal.returns
returns c = c.without_end.ensures ∙ without_last c.args.line.now c.args.note c.requires
