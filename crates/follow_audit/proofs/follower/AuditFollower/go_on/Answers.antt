use Rattle.capture_through.specs.Through.{passed_edges}
use Rattle.follow_audit.proofs.Followed.{line_first, line_second, line_whole}
use Rattle.follow_audit.proofs.follower.AuditFollower.go_on.Goals as goal

pub returns-in-Err-clause-onward : goal.returns-in-Err-clause-onward
returns-in-Err-clause-onward g c =
    line_first c.args.self.now c.hear_edges.new.self (passed_edges c.args.passed.by_edge) (passed_edges c.args.passed.by_calm) (g.S.Sink.contents c.args.out.now) (g.S.Sink.contents c.hear_edges.new.out) c.in-Err.error c.in-Err.ensures.onward

pub returns-in-Err-hear_edges-clause-onward : goal.returns-in-Err-hear_edges-clause-onward
returns-in-Err-hear_edges-clause-onward g c =
    line_second c.args.self.now c.hear_edges.new.self c.hear_edges-in-Ok.new.self (passed_edges c.args.passed.by_edge) (passed_edges c.args.passed.by_calm) (g.S.Sink.contents c.args.out.now) (g.S.Sink.contents c.hear_edges.new.out)
    (g.S.Sink.contents c.hear_edges-in-Ok.new.out) c.in-Err-hear_edges.error c.in-Ok.ensures.onward c.in-Err-hear_edges.ensures.onward

pub returns-in-Ok-hear_edges-clause-onward : goal.returns-in-Ok-hear_edges-clause-onward
returns-in-Ok-hear_edges-clause-onward g c =
    line_whole c.args.self.now c.hear_edges.new.self c.hear_edges-in-Ok.new.self c.hear_calm.new.self (passed_edges c.args.passed.by_edge) (passed_edges c.args.passed.by_calm) (g.S.Sink.contents c.args.out.now)
    (g.S.Sink.contents c.hear_edges.new.out) (g.S.Sink.contents c.hear_edges-in-Ok.new.out) (g.S.Sink.contents c.hear_calm.new.out) c.hear_calm.result c.in-Ok.ensures.onward c.in-Ok-hear_edges.ensures.onward c.hear_calm.ensures.onward
