use Rattle.follow_core.proofs.Followed.{made_fault, made_whole}
use Rattle.follow_core.proofs.laws.what_is_made_was_read.Goals as goal

pub returns-clause-whole : goal.returns-clause-whole
returns-clause-whole c = made_whole

pub returns-clause-fault : goal.returns-clause-fault
returns-clause-fault c = made_fault
