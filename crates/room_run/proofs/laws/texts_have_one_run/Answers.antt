use Rattle.room_run.proofs.OneRun as lemmas
use Rattle.room_run.proofs.laws.texts_have_one_run.Goals as goal

pub returns : goal.returns
returns c = lemmas.texts_have_one_run
