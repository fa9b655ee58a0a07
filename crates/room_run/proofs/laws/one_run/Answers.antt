use Rattle.room_run.proofs.OneRun as lemmas
use Rattle.room_run.proofs.laws.one_run.Goals as goal

pub returns : goal.returns
returns c = lemmas.one_run
