use Rattle.std.proofs.Common.{◌++◌, option_map}
use Rattle.std.specs.Option.{option_to_list}
use Rattle.line_reading.specs.Reports.{listed_as}
use Rattle.follow_core.specs.Passing.{edges_in}
use Rattle.follow_core.specs.Teller.{listed_pair}
use Rattle.follow_audit.proofs.Followed.{goes_cut, goes_end, told_last}
use Rattle.follow_audit.proofs.follower.AuditFollower.go_to_end.Goals as goal

pub returns-in-Err : goal.returns-in-Err
returns-in-Err g c = (goes_cut c.args.self (edges_in c.args.passed) c.args.end (g.S.Sink.contents c.args.out.now), tt)

pub returns-in-Ok : goal.returns-in-Ok
returns-in-Ok g c =
    goes_end c.args.self c.take_all.new.self (edges_in c.args.passed) c.args.end (listed_pair c.pass-by_edge.result ++ (listed_pair c.pass-by_calm.result ++ option_to_list (option_map listed_as c.end-last.result)))
    (g.S.Sink.contents c.args.out.now) (g.S.Sink.contents c.finish.new.out) c.finish.result c.in-Ok.ensures
    (told_last c.args.self.teller c.pass-by_edge.new.self c.pass-by_calm.new.self c.args.passed c.pass-by_edge.result c.pass-by_calm.result c.args.end (option_map listed_as c.end-last.result) c.pass-by_edge.ensures c.pass-by_calm.ensures c.end-last.ensures)
    c.finish.ensures
