use Rattle.judge_laws.proofs.Said as lemmas
use Rattle.judge_laws.proofs.laws.refused_are_never_seen.Goals as goal

pub returns : goal.returns
returns c = lemmas.refused_are_never_seen
