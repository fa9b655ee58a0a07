use Rattle.room_run.proofs.Turns as Turns
use Rattle.room_run.proofs.laws.one_run_text.Goals as goal

pub returns : goal.returns
returns c = Turns.one_run_text
