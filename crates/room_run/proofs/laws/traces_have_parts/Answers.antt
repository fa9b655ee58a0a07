use Rattle.room_run.proofs.OneRun as lemmas
use Rattle.room_run.proofs.laws.traces_have_parts.Goals as goal

pub returns : goal.returns
returns c = lemmas.traces_have_parts
