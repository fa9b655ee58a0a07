use Rattle.message_lay.proofs.Sent.{frames_are_sent}
use Rattle.message_lay.proofs.laws.frames_are_sent.Goals as goal

pub returns : goal.returns
returns c = frames_are_sent
