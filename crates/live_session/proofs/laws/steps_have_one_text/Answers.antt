use Rattle.live_session.proofs.Answering as Answering
use Rattle.live_session.proofs.laws.steps_have_one_text.Goals as goal

pub returns : goal.returns
returns c = Answering.steps_have_one_text
