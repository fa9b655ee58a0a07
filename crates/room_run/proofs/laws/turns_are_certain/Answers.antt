use Rattle.room_run.proofs.Certainty as Certainty
use Rattle.room_run.proofs.laws.turns_are_certain.Goals as goal

pub returns : goal.returns
returns c = Certainty.turns_are_certain
