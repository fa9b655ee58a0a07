use Rattle.follow_core.proofs.Followed.{end_followed, end_refused}
use Rattle.follow_core.proofs.follower.Follower.end.Goals as goal

pub returns-in-Ok-clause-hears : goal.returns-in-Ok-clause-hears
returns-in-Ok-clause-hears c = λ form signal view how past text done w shows.
    end_followed form signal view how past c.args.number c.args.self c.pass-by_edge.new.self c.pass-by_calm.new.self c.in-Ok.last
    (record { by_edge = c.pass-by_edge.result; by_calm = c.pass-by_calm.result; last = c.end-running.result }) c.idle_by_end-idle.result text done w shows
    c.in-Ok.ensures.ends c.pass-by_edge.ensures c.pass-by_calm.ensures c.end-running.ensures c.idle_by_end-idle.ensures

pub returns-in-Err-clause-hears : goal.returns-in-Err-clause-hears
returns-in-Err-clause-hears c = λ form signal view how past text w. end_refused form signal view how past c.args.number c.args.self c.in-Err.fault text w c.in-Err.ensures.ends
