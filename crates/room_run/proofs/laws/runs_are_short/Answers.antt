use Rattle.room_run.proofs.Few as lemmas
use Rattle.room_run.proofs.laws.runs_are_short.Goals as goal

pub returns : goal.returns
returns c = lemmas.runs_short
