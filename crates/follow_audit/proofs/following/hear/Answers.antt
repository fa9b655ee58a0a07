use Rattle.follow_audit.proofs.Written.{alone_pending, handed_alone, heard_handed, heard_stopped, stopped_handed}
use Rattle.follow_audit.proofs.following.hear.Goals as goal

pub returns-in-Err-clause-hears : goal.returns-in-Err-clause-hears
returns-in-Err-clause-hears g c =
    stopped_handed c.args.signal.now c.args.number c.args.line.now c.args.follower.now c.line.new.self _ _ _ c.in-Err.error c.stopped.result c.in-Err.ensures.hears c.stopped.ensures.bytes c.stopped.ensures.same

pub returns-in-Ok-flush-clause-hears : goal.returns-in-Ok-flush-clause-hears
returns-in-Ok-flush-clause-hears g c = heard_handed c.args.signal.now c.args.number c.args.line.now c.args.follower.now c.line.new.self _ _ _ c.in-Ok.ensures.hears c.flush.ensures.bytes

pub returns-in-Err-flush-clause-hears : goal.returns-in-Err-flush-clause-hears
returns-in-Err-flush-clause-hears g c =
    heard_stopped c.args.signal.now c.args.number c.args.line.now c.args.follower.now c.line.new.self _ _ _ c.in-Err-flush.fault.count c.in-Ok.ensures.hears c.flush.ensures.bytes

pub returns-in-Err-clause-kept : goal.returns-in-Err-clause-kept
returns-in-Err-clause-kept g c =
    handed_alone c.stopped.result c.args.out.now.pending.items c.stopped.new.out.pending.items
    (c.stopped.ensures.alone c.args.out.now.pending.items (alone_pending c.in-Err.error c.args.out.now c.line.new.out c.in-Err.ensures.alone))

pub returns-in-Err-flush-clause-kept : goal.returns-in-Err-flush-clause-kept
returns-in-Err-flush-clause-kept g c = λ none. tt
