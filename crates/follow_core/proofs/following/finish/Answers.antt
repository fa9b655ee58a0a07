use Rattle.follow_core.proofs.Written.{ends, fault_ends, shows_last_as}
use Rattle.follow_core.proofs.Long.{writing_handed}
use Rattle.follow_core.proofs.following.finish.Goals as goal

pub returns-in-Ok-clause-ends : goal.returns-in-Ok-clause-ends
returns-in-Ok-clause-ends g c =
    let wrote = c.write_last-done.ensures in
    ends c.args.view c.args.number c.args.follower c.in-Ok.last _ _ c.hand_on.result c.in-Ok.ensures.hears wrote.0
    (shows_last_as c.args.view (record { before = c.start-before.result; now = c.start_at_end-now.result }) c.args.follower _ c.in-Ok.last.shown c.in-Ok.last.ended wrote.0
    c.start-before.ensures c.start_at_end-now.ensures c.in-Ok.ensures.shown wrote.1)
    (c.hand_on.ensures.put _ _ wrote.2) c.hand_on.ensures.writing

pub returns-in-Err-clause-ends : goal.returns-in-Err-clause-ends
returns-in-Err-clause-ends g c = fault_ends c.args.view c.args.number c.args.follower _ c.in-Err.fault c.in-Err.ensures.hears c.in-Err.ensures.place

pub returns-in-Ok-clause-kept : goal.returns-in-Ok-clause-kept
returns-in-Ok-clause-kept g c = writing_handed c.hand_on.result c.args.out.now.pending.items c.hand_on.new.out.pending.items c.hand_on.ensures.writing
