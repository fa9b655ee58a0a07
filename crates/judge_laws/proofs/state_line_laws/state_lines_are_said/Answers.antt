use Rattle.judge_laws.proofs.SaidOnce as lemmas
use Rattle.judge_laws.proofs.state_line_laws.state_lines_are_said.Goals as goal

pub returns : goal.returns
returns c = lemmas.state_lines_are_said
