use Rattle.room_net.proofs.Few as lemmas
use Rattle.room_net.proofs.laws.runs_are_short.Goals as goal

pub returns : goal.returns
returns c = lemmas.runs_are_short
