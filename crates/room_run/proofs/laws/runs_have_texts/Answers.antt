use Rattle.room_run.proofs.HasRun as lemmas
use Rattle.room_run.proofs.laws.runs_have_texts.Goals as goal

pub returns : goal.returns
returns c = lemmas.runs_have_texts
