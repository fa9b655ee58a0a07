use Rattle.room_run.proofs.Turns as Turns
use Rattle.room_run.proofs.laws.one_trace.Goals as goal

pub returns : goal.returns
returns c = Turns.one_trace
