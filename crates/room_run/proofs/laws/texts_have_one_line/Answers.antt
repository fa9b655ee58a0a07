use Rattle.room_run.proofs.Accepted as Accepted
use Rattle.room_run.proofs.laws.texts_have_one_line.Goals as goal

pub returns : goal.returns
returns c = Accepted.texts_have_one_line
