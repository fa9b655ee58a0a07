use Rattle.judge_laws.proofs.TracesTold as lemmas
use Rattle.judge_laws.proofs.laws.traces_are_told.Goals as goal

pub returns : goal.returns
returns c = lemmas.traces_are_told c.turns_tell_the_text.ensures.told c.turns_tell_the_text.ensures.trace
