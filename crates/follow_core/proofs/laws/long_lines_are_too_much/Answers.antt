use Rattle.follow_core.proofs.Long as lemmas
use Rattle.follow_core.proofs.laws.long_lines_are_too_much.Goals as goal

pub returns : goal.returns
returns c = lemmas.long_lines_are_too_much
