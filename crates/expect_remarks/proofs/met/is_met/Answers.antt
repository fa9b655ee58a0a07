use Rattle.std.proofs.Common.{◌∙◌, ap}
use Rattle.expect_remarks.specs.Met.{is_met_by}
use Rattle.expect_remarks.proofs.met.is_met.Goals as goal

pub returns : goal.returns
returns c = c.is_met_by.ensures ∙ ap (is_met_by c.args.pattern.now c.args.note) c.said_in-said.ensures
