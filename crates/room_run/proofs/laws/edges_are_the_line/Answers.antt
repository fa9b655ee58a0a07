use Rattle.room_run.proofs.WholeLine as lemmas
use Rattle.room_run.proofs.laws.edges_are_the_line.Goals as goal

pub returns : goal.returns
returns c = lemmas.edges_are_the_line
