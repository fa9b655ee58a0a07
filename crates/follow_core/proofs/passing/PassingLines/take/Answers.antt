use Rattle.std.proofs.Common.{◌+◌, ap, subst, ℕ, ◌∙◌}
use Rattle.capture_through.specs.Through.{IsCalm, PassesCalm}
use Rattle.follow_core.specs.Lines.{lines_left}
use Rattle.follow_core.specs.Passing.{through_read}
use Rattle.follow_core.proofs.Onward.{from_rest, passing_more}
use Rattle.follow_core.proofs.passing.PassingLines.take.Goals as goal

pub returns-in-Ok-clause-takes : goal.returns-in-Ok-clause-takes
returns-in-Ok-clause-takes c = λ rest.
    let lines = c.take.new.self in
    let signal = c.args.signal.now in
    let calm = subst (λ (n : ℕ). PassesCalm c.maybe-by_edge.new.self n c.calm-by_calm.result c.calm-by_calm.new.self) c.from.ensures.from c.calm-by_calm.ensures.passes in
    ap (through_read c.args.self.now.through) (c.in-Ok.ensures.takes rest)
    ∙ passing_more c.args.self.now.through c.maybe-by_edge.new.self c.calm-by_calm.new.self c.in-Ok.edge c.maybe-by_edge.result c.calm-by_calm.result (lines_left signal lines (c.args.number + 1) rest) c.maybe-by_edge.ensures.passes
    (λ d h. calm d.edges (from_rest c.edge_lines_go_on.ensures c.pin_lines_go_on.ensures c.csv_lines_go_on.ensures signal lines (c.args.number + 1) rest d c.in-Ok.ensures.early h).0)

pub returns-in-Err-clause-takes : goal.returns-in-Err-clause-takes
returns-in-Err-clause-takes c = λ rest. ap (through_read c.args.self.now.through) (c.in-Err.ensures.takes rest)

pub returns-in-Ok-clause-passing : goal.returns-in-Ok-clause-passing
returns-in-Ok-clause-passing c = record {
  lines = c.in-Ok.ensures.early;
  held = c.calm-by_calm.ensures.held;
  calm = subst (λ (n : ℕ). IsCalm n c.calm-by_calm.new.self) c.from.ensures.from c.calm-by_calm.ensures.calm;
}
