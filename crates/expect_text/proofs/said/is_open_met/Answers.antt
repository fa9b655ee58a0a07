use Rattle.std.proofs.Common.{ap}
use Rattle.expect_text.specs.Senders.{judged_as}
use Rattle.expect_text.proofs.Fronts.{open_is}
use Rattle.expect_text.proofs.said.is_open_met.Goals as goal

pub returns-in-Capture : goal.returns-in-Capture
returns-in-Capture c = open_is (judged_as c.args.who) c.args.pattern.now c.is_ending_met.result (ap judged_as c.in-Capture.is) c.is_ending_met.ensures
