use Rattle.follow_core.specs.declared.error.FollowError.TheVariants.{Write}
use Rattle.follow_core.proofs.Written.{puts_cut_on, puts_on, puts_on_cut}
use Rattle.follow_core.proofs.following.hand_on.Goals as goal

pub returns-in-Err-clause-put : goal.returns-in-Err-clause-put
returns-in-Err-clause-put g c = λ before text put. puts_cut_on before _ _ text c.args.done c.in-Err.fault c.stopped.result c.in-Err.is put c.stopped.ensures.bytes

pub returns-in-Err-flush-clause-put : goal.returns-in-Err-flush-clause-put
returns-in-Err-flush-clause-put g c = λ before text put. puts_on_cut before _ _ text c.args.done (Write c.in-Err-flush.fault.count) c.in-Ok.is put c.flush.ensures.bytes

pub returns-in-Ok-flush-clause-put : goal.returns-in-Ok-flush-clause-put
returns-in-Ok-flush-clause-put g c = λ before text put. puts_on before _ _ text c.args.done c.in-Ok.is put c.flush.ensures.bytes
