use Rattle.judge_laws.proofs.Having as lemmas
use Rattle.judge_laws.proofs.state_line_laws.state_words_are_said.Goals as goal

pub returns : goal.returns
returns c = lemmas.state_words_are_said
