use Rattle.room_net.proofs.Orderly.{never_twice}
use Rattle.room_net.proofs.held.never_twice.Goals as goal

pub returns : goal.returns
returns c = never_twice
