use Rattle.room_run.proofs.WholeLine as lemmas
use Rattle.room_run.proofs.laws.lines_are_of_the_rounds.Goals as goal

pub returns : goal.returns
returns c = lemmas.lines_are_of_the_rounds
