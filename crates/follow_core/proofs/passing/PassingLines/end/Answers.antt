use Rattle.std.proofs.Common.{ap, ◌∙◌}
use Rattle.follow_core.specs.Passing.{through_read}
use Rattle.follow_core.proofs.Onward.{passing_end}
use Rattle.follow_core.proofs.passing.PassingLines.end.Goals as goal

pub returns-in-Ok-clause-ends : goal.returns-in-Ok-clause-ends
returns-in-Ok-clause-ends c =
    ap (through_read c.args.self.through) c.in-Ok.ensures.ends
    ∙ passing_end c.args.self.through c.maybe-by_edge.new.self c.in-Ok.last.edge c.maybe-by_edge.result c.end-by_calm.result c.in-Ok.last.end c.maybe-by_edge.ensures.passes c.end-by_calm.ensures.passes

pub returns-in-Err-clause-ends : goal.returns-in-Err-clause-ends
returns-in-Err-clause-ends c = ap (through_read c.args.self.through) c.in-Err.ensures.ends
