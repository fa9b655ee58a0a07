use Rattle.follow_core.specs.Passing.{edges_in}
use Rattle.follow_audit.proofs.Followed.{end_heard, end_refused, ending_alone}
use Rattle.follow_audit.proofs.follower.AuditFollower.end.Goals as goal

pub returns-in-Err-clause-ends : goal.returns-in-Err-clause-ends
returns-in-Err-clause-ends g c = end_refused c.args.number c.args.self c.in-Err.fault (g.S.Sink.contents c.args.out.now) c.in-Err.ensures.ends c.in-Err.ensures.place

pub returns-in-Ok-clause-ends : goal.returns-in-Ok-clause-ends
returns-in-Ok-clause-ends g c =
    end_heard c.args.number c.args.self c.in-Ok.last (g.S.Sink.contents c.args.out.now) (g.S.Sink.contents c.go_to_end.new.out) c.go_to_end.result c.in-Ok.ensures.ends c.go_to_end.ensures

pub returns-in-Ok-clause-alone : goal.returns-in-Ok-clause-alone
returns-in-Ok-clause-alone g c =
    ending_alone c.args.self (edges_in c.in-Ok.last.edges) c.in-Ok.last.end (g.S.Sink.contents c.args.out.now) (g.S.Sink.contents c.go_to_end.new.out) c.go_to_end.result c.args.out.now c.go_to_end.new.out c.go_to_end.ensures
