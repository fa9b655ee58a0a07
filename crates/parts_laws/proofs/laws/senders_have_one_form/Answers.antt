use Rattle.parts_laws.proofs.Same.{same_sender}
use Rattle.parts_laws.proofs.laws.senders_have_one_form.Goals as goal

pub returns : goal.returns
returns c = same_sender
