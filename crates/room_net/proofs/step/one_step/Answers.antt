use Rattle.room_net.proofs.OneStep.{one_step}
use Rattle.room_net.proofs.step.one_step.Goals as goal

pub returns : goal.returns
returns c = one_step
