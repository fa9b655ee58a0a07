use Rattle.follow_audit.proofs.Written.{alone_pending, cut_handed, end_handed, end_stopped, handed_alone}
use Rattle.follow_audit.proofs.following.finish.Goals as goal

pub returns-in-Err-clause-ends : goal.returns-in-Err-clause-ends
returns-in-Err-clause-ends g c = cut_handed c.args.number c.args.follower _ _ _ c.in-Err.error c.stopped.result c.in-Err.ensures.ends c.stopped.ensures.bytes c.stopped.ensures.same

pub returns-in-Ok-flush-clause-ends : goal.returns-in-Ok-flush-clause-ends
returns-in-Ok-flush-clause-ends g c = end_handed c.args.number c.args.follower _ _ _ c.in-Ok.remarked c.in-Ok.ensures.ends c.flush.ensures.bytes

pub returns-in-Err-flush-clause-ends : goal.returns-in-Err-flush-clause-ends
returns-in-Err-flush-clause-ends g c = end_stopped c.args.number c.args.follower _ _ _ c.in-Ok.remarked c.in-Err-flush.fault.count c.in-Ok.ensures.ends c.flush.ensures.bytes

pub returns-in-Err-clause-kept : goal.returns-in-Err-clause-kept
returns-in-Err-clause-kept g c =
    handed_alone c.stopped.result c.args.out.now.pending.items c.stopped.new.out.pending.items
    (c.stopped.ensures.alone c.args.out.now.pending.items (alone_pending c.in-Err.error c.args.out.now c.end.new.out c.in-Err.ensures.alone))

pub returns-in-Err-flush-clause-kept : goal.returns-in-Err-flush-clause-kept
returns-in-Err-flush-clause-kept g c = λ none. tt
