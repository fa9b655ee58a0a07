use Rattle.room_run.proofs.ObjectLines.{objects_are_of_the_trace}
use Rattle.room_run.proofs.laws.objects_are_of_the_trace.Goals as goal

pub returns : goal.returns
returns c = objects_are_of_the_trace
