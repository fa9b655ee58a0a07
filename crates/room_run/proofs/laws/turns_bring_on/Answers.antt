use Rattle.room_run.proofs.Advance as Advance
use Rattle.room_run.proofs.Running as Running
use Rattle.room_run.proofs.laws.turns_bring_on.Goals as goal

pub returns-clause-begins : goal.returns-clause-begins
returns-clause-begins c = Advance.round_begins

pub returns-clause-brings : goal.returns-clause-brings
returns-clause-brings c = Running.brings

pub returns-clause-left : goal.returns-clause-left
returns-clause-left c = Advance.next_schedule
