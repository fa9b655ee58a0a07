use Rattle.room_run.proofs.Before as Before
use Rattle.room_run.proofs.Turns as Turns
use Rattle.room_run.proofs.laws.turns_are_one.Goals as goal

pub returns-clause-outcome : goal.returns-clause-outcome
returns-clause-outcome c = Turns.same_outcome

pub returns-clause-turn : goal.returns-clause-turn
returns-clause-turn c = Before.one_turn

pub returns-clause-none : goal.returns-clause-none
returns-clause-none c = Turns.no_turn

pub returns-clause-held : goal.returns-clause-held
returns-clause-held c = Before.held_ends
