use Rattle.message_lay.proofs.Laid.{faultless_are_sent}
use Rattle.message_lay.proofs.laws.faultless_are_sent.Goals as goal

pub returns : goal.returns
returns c = faultless_are_sent
