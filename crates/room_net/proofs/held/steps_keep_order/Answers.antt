use Rattle.room_net.proofs.Orderly.{keeps_order}
use Rattle.room_net.proofs.held.steps_keep_order.Goals as goal

pub returns : goal.returns
returns c = keeps_order
