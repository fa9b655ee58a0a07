use Rattle.room_run.proofs.Lines as Lines
use Rattle.room_run.proofs.laws.runs_are_read.Goals as goal

pub returns : goal.returns
returns c = Lines.runs_read
