use Rattle.room_run.proofs.HasRun as lemmas
use Rattle.room_run.proofs.laws.texts_have_traces.Goals as goal

pub returns : goal.returns
returns c = lemmas.texts_have_traces
