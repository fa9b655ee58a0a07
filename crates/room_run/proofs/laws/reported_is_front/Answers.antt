use Rattle.room_run.proofs.Certainty as Certainty
use Rattle.room_run.proofs.laws.reported_is_front.Goals as goal

pub returns : goal.returns
returns c = Certainty.reported_is_front
