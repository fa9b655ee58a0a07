use Rattle.std.proofs.Common.{◌+◌, [], arith}
use Rattle.follow_core.proofs.Followed.{line_followed}
use Rattle.follow_core.proofs.follower.Follower.line.Goals as goal

pub returns-clause-hears : goal.returns-clause-hears
returns-clause-hears c = λ form view how past text shown done w shows.
    line_followed form c.args.signal.now view how past c.args.number c.args.line.now c.args.self.now (record { lines = c.take.new.self; teller = c.calm-last.new.self; shown = c.args.self.now.shown }) c.pass-by_edge.new.self c.pass-by_calm.new.self
    c.in_ok-passed.passed (record { by_edge = c.pass-by_edge.result; by_calm = c.pass-by_calm.result; last = c.calm-last.result }) c.known.result text shown done w shows c.in_ok-passed.ensures.takes c.in_ok-passed.ensures.shortest
    (c.known.ensures.known c.args.signal.now (c.args.number + 1)) c.pass-by_edge.ensures c.pass-by_calm.ensures c.calm-last.ensures

pub returns-clause-prompt : goal.returns-clause-prompt
returns-clause-prompt c =
    let lag = (c.known.ensures.known [] 0).lag in
    let reach = c.calm-last.ensures.prompt in
    omega (arith, lag, reach)
