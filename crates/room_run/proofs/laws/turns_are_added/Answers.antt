use Rattle.room_run.proofs.Whole as Whole
use Rattle.room_run.proofs.laws.turns_are_added.Goals as goal

pub returns : goal.returns
returns g c = Whole.heard_text
