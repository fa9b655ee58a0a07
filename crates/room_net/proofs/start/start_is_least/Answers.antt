use Rattle.room_net.proofs.Starts.{start_is_least}
use Rattle.room_net.proofs.start.start_is_least.Goals as goal

pub returns : goal.returns
returns c = start_is_least
