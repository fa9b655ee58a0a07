use Rattle.std.specs.Option.{option_to_list}
use Rattle.follow_audit.proofs.Followed.{goes_first, goes_then}
use Rattle.follow_audit.proofs.follower.AuditFollower.hear_edges.Goals as goal

pub returns-in-Err-clause-onward : goal.returns-in-Err-clause-onward
returns-in-Err-clause-onward g c =
    goes_first c.args.self.now c.hear_edge.new.self (option_to_list c.args.passed.first) (option_to_list c.args.passed.second) 0 (g.S.Sink.contents c.args.out.now) (g.S.Sink.contents c.hear_edge.new.out) c.in-Err.error c.in-Err.ensures.onward

pub returns-in-Ok-clause-onward : goal.returns-in-Ok-clause-onward
returns-in-Ok-clause-onward g c =
    goes_then c.args.self.now c.hear_edge.new.self c.hear_edge-in-Ok.new.self (option_to_list c.args.passed.first) (option_to_list c.args.passed.second) 0 (g.S.Sink.contents c.args.out.now) (g.S.Sink.contents c.hear_edge.new.out)
    (g.S.Sink.contents c.hear_edge-in-Ok.new.out) c.hear_edge-in-Ok.result c.in-Ok.ensures.onward c.hear_edge-in-Ok.ensures.onward
