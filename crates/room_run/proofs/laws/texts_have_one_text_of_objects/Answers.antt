use Rattle.room_run.proofs.Accepted.{texts_have_one_text_of_objects}
use Rattle.room_run.proofs.laws.texts_have_one_text_of_objects.Goals as goal

pub returns : goal.returns
returns c = texts_have_one_text_of_objects
