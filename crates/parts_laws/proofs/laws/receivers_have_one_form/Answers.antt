use Rattle.parts_laws.proofs.Same.{same_receiver}
use Rattle.parts_laws.proofs.laws.receivers_have_one_form.Goals as goal

pub returns : goal.returns
returns c = same_receiver
