use Rattle.room_run.proofs.OneRun as lemmas
use Rattle.room_run.proofs.laws.runs_close_soon.Goals as goal

pub returns : goal.returns
returns c = lemmas.runs_close_soon
