use Rattle.follow_core.proofs.Written.{fault_heard, hears, shows_as}
use Rattle.follow_core.proofs.Long.{writing_handed}
use Rattle.follow_core.proofs.following.hear.Goals as goal

pub returns-in-Ok-clause-hears : goal.returns-in-Ok-clause-hears
returns-in-Ok-clause-hears g c =
    let wrote = c.write_ended-done.ensures in
    hears c.args.view c.args.signal.now c.args.number c.args.line.now c.args.follower.now c.line.new.self c.in-Ok.heard c.write_ended-done.new.shown _ _ c.hand_on.result c.in-Ok.ensures.hears c.in-Ok.ensures.prompt wrote.0
    (shows_as c.args.view (record { before = c.start-before.result; now = c.start-now.result }) c.args.follower.now _ _ c.in-Ok.heard c.write_ended-done.new.shown wrote.0
    c.start-before.ensures c.start-now.ensures c.in-Ok.ensures.shown wrote.1)
    (c.hand_on.ensures.put _ _ wrote.2) c.hand_on.ensures.writing

pub returns-in-Err-clause-hears : goal.returns-in-Err-clause-hears
returns-in-Err-clause-hears g c = fault_heard c.args.view c.args.signal.now c.args.number c.args.line.now c.args.follower.now c.line.new.self _ c.in-Err.fault c.in-Err.ensures.hears c.in-Err.ensures.place

pub returns-in-Ok-clause-kept : goal.returns-in-Ok-clause-kept
returns-in-Ok-clause-kept g c = writing_handed c.hand_on.result c.args.out.now.pending.items c.hand_on.new.out.pending.items c.hand_on.ensures.writing
