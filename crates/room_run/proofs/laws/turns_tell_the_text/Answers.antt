use Rattle.room_run.proofs.Turns as Turns
use Rattle.room_run.proofs.Whole as Whole
use Rattle.room_run.proofs.laws.turns_tell_the_text.Goals as goal

pub returns-clause-front : goal.returns-clause-front
returns-clause-front c = Turns.front_of_text

pub returns-clause-told : goal.returns-clause-told
returns-clause-told c = Whole.run_told

pub returns-clause-trace : goal.returns-clause-trace
returns-clause-trace c = Whole.trace_by

pub returns-clause-objects : goal.returns-clause-objects
returns-clause-objects c = Whole.objects_by
