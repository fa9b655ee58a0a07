use Rattle.follow_core.proofs.Followed.{both, split_read, with_none}
use Rattle.follow_core.proofs.laws.edges_come_before_what_is_left.Goals as goal

pub returns-clause-none : goal.returns-clause-none
returns-clause-none c = with_none

pub returns-clause-joined : goal.returns-clause-joined
returns-clause-joined c = both

pub returns-clause-split : goal.returns-clause-split
returns-clause-split c = split_read
