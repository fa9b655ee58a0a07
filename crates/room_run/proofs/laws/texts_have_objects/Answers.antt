use Rattle.room_run.proofs.HasRun.{texts_have_objects}
use Rattle.room_run.proofs.laws.texts_have_objects.Goals as goal

pub returns : goal.returns
returns c = texts_have_objects
